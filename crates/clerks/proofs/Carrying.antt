-- A line of sheets worked on two vectors, from either end.
use Rattle.std.proofs.Common.{◌≡◌, ℕ, ◌<◌, List, [], ◌∷◌, map, length, sym, refl, ap, ◌∙◌, arith}
use Rattle.std.specs.List.{range_with_len}
use Rattle.std.proofs.lemmas.List.FromFn.{length-map-range_with_len, get_or-map-range_with_len}
use Rattle.arithmetic.specs.Semiring.{Figures, meanings}
use Rattle.matrix.specs.Vectors.{dot, figure_at, column_worked, row_worked}
use Rattle.matrix.proofs.Meant.{length-meanings}
use Rattle.matrix.proofs.Sums.{sum_same}
use Rattle.matrix.proofs.Tables.{product_assoc, unit_product, product_unit}
use Rattle.matrix.proofs.Vectors.{one_total_lem}
use Rattle.book.specs.Book.{Arrays, order_of, sheet_table}
use Rattle.clerks.specs.Carrying.{line_product, carried_back, carried_forward, LineTotal, CarriedBack, back_none, back_more, CarriedForward, forward_none, forward_more, CarriedTotal, OneTotal}

module _ {S : Type 0} (a : Figures S) (b : Arrays S) where
  abbrev n : ℕ
  n = order_of b

  -- x carried back is the product of the line times x
  back_is : (line : List ℕ) (x : List a.F) (i : ℕ) → i < n → figure_at a.ring (carried_back a b line x) i ≡ column_worked a.ring n (line_product a b line) (figure_at a.ring x) i
  back_is [] x i low = sym (unit_product a.ring n (λ k j. figure_at a.ring x k) i 0 low)
  back_is (k ∷ ks) x i low =
      get_or-map-range_with_len (column_worked a.ring n (sheet_table a b k) (figure_at a.ring (carried_back a b ks x))) 0 n i i a.ring.zero low (omega arith)
      ∙ (sum_same a.ring n _ _ (λ j h. ap (a.ring.mul (sheet_table a b k i j)) (back_is ks x j h))
      ∙ sym (product_assoc a.ring n (sheet_table a b k) (line_product a b ks) (λ l j. figure_at a.ring x l) i 0))

  -- y carried forward is y times the product of the line
  forward_is : (line : List ℕ) (y : List a.F) (j : ℕ) → j < n → figure_at a.ring (carried_forward a b line y) j ≡ row_worked a.ring n (figure_at a.ring y) (line_product a b line) j
  forward_is [] y j low = sym (product_unit a.ring n (λ i k. figure_at a.ring y k) 0 j low)
  forward_is (k ∷ ks) y j low =
      forward_is ks (map (row_worked a.ring n (figure_at a.ring y) (sheet_table a b k)) (range_with_len 0 n)) j low
      ∙ (sum_same a.ring n _ _ (λ i h. ap (λ z. a.ring.mul z (line_product a b ks i j)) (get_or-map-range_with_len (row_worked a.ring n (figure_at a.ring y) (sheet_table a b k)) 0 n i i a.ring.zero h (omega arith)))
      ∙ product_assoc a.ring n (λ i l. figure_at a.ring y l) (sheet_table a b k) (line_product a b ks) 0 j)

  forward_long : (line : List ℕ) (y : List a.F) → length y ≡ n → length (carried_forward a b line y) ≡ n
  forward_long [] y long = long
  forward_long (k ∷ ks) y long = forward_long ks (map (row_worked a.ring n (figure_at a.ring y) (sheet_table a b k)) (range_with_len 0 n)) (length-map-range_with_len (row_worked a.ring n (figure_at a.ring y) (sheet_table a b k)) 0 n)

  line_totals_lem : LineTotal a b
  line_totals_lem line x y long long' =
      let both = one_total_lem a.ring n (figure_at a.ring y) (line_product a b line) (figure_at a.ring x) in (
        ap (λ k. dot a.ring k (figure_at a.ring y) (figure_at a.ring (carried_back a b line x))) long'
            ∙ (sum_same a.ring n _ _ (λ i h. ap (a.ring.mul (figure_at a.ring y i)) (back_is line x i h)) ∙ both.0),
        ap (λ k. dot a.ring k (figure_at a.ring (carried_forward a b line y)) (figure_at a.ring x)) (forward_long line y long')
            ∙ (sum_same a.ring n _ _ (λ j h. ap (λ z. a.ring.mul z (figure_at a.ring x j)) (forward_is line y j h)) ∙ both.1),
      )

  -- what granted workings leave
  back_means : {line : List ℕ} {x out : List S} → CarriedBack a b line x out → meanings a out ≡ carried_back a b line (meanings a x)
  back_means back_none = refl
  back_means (back_more {k = k} before answer rest worked) = worked.2 ∙ ap (λ v. map (column_worked a.ring n (sheet_table a b k) (figure_at a.ring v)) (range_with_len 0 n)) (back_means rest)

  forward_means : {line : List ℕ} {y out : List S} → CarriedForward a b line y out → meanings a out ≡ carried_forward a b line (meanings a y)
  forward_means forward_none = refl
  forward_means (forward_more {ks = ks} before answer worked rest) = forward_means rest ∙ ap (carried_forward a b ks) worked.2

  pub carried_totals : CarriedTotal a b
  carried_totals line x y back forward long long' went_back went_forward =
      let both = line_totals_lem line (meanings a x) (meanings a y) (length-meanings a x ∙ long) (length-meanings a y ∙ long') in
      (rw (back_means went_back) both.0, rw (forward_means went_forward) both.1)

pub one_totals : {S : Type 0} (a : Figures S) → OneTotal a
one_totals a b = (line_totals_lem a b, carried_totals a b)
