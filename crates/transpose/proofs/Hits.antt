-- How often a column stands among the places of a sheet.
use Rattle.std.proofs.Common.{◌≡◌, ℕ, zero, suc, ◌+◌, ◌-◌, ◌<◌, ◌≤◌, Bool, true, false, cond, not, ◌&&◌, eqb, ◌⊎◌, List, length, get_or, take, drop, set, sym, refl, ap, ◌∙◌, subst, ap₂, inl, inr, ⊎_elim, add-one, arith}
use Rattle.std.proofs.lemmas.List.{get_or-set_same, get_or-set_other, length_push}
use Rattle.std.proofs.lemmas.Bool.{cases_lt, cases_eq, cases_Bool, eq-eqb, ne_eqb}
use Rattle.arithmetic.specs.Semiring.{Semiring}
use Rattle.matrix.specs.Tables.{flipped}
use Rattle.sheet.specs.Packed.{Sound, stored, columns_below, row_columns, row_start, packed_length, table}
use Rattle.sheet.proofs.Found.{sound_rises, row_past, columns_rise}
use Rattle.sheet.proofs.Cells.{part_at}
use Rattle.sheet.proofs.Columns.{columns_yes, columns_no}
use Rattle.sheet.proofs.Unique.{cell_stored, none_stored}
use Rattle.transpose.specs.Flipping.{hits}

-- one place more
pub hits_more : (ws : List ℕ) (c q p : ℕ) → q ≤ p → hits ws c q (p + 1 - q) ≡ hits ws c q (p - q) + cond (eqb (get_or ws p 0) c) 1 0
hits_more ws c q p le =
    let e : p + 1 - q ≡ suc (p - q) = omega arith in
    let at : q + (p - q) ≡ p = omega arith in
    ap (hits ws c q) e ∙ ap (λ i. hits ws c q (p - q) + cond (eqb (get_or ws i 0) c) 1 0) at

pub hits_few : (ws : List ℕ) (c q m : ℕ) → hits ws c q m ≤ m
hits_few ws c q zero = omega arith
hits_few ws c q (suc m) = let before = hits_few ws c q m in go (eqb (get_or ws (q + m) 0) c) before
  where
    go : (b : Bool) → hits ws c q m ≤ m → hits ws c q m + cond b 1 0 ≤ suc m
    go true h = omega arith
    go false h = omega arith

-- places that do not hold the word
pub hits_none : (ws : List ℕ) (c q k m : ℕ) → k ≤ m → ((i : ℕ) → q + k ≤ i → i < q + m → get_or ws i 0 ≡ c → ⊥) → hits ws c q m ≡ hits ws c q k
hits_none ws c q k zero le none = let e : k ≡ 0 = omega arith in rw e refl
hits_none ws c q k (suc m) le none = ⊎_elim
    (λ (h : k < suc m). rw (ne_eqb (get_or ws (q + m) 0) c (none (q + m) (omega arith) (omega arith))) (omega (arith, hits_none ws c q k m (omega arith) (λ i from to. none i from (omega arith)))))
    (λ (h : suc m ≤ k). let e : k ≡ suc m = omega arith in rw e refl)
    (cases_lt k (suc m))

-- the count of a column that was met
pub counted_more : (ws : List ℕ) (q m w : ℕ) → w ≡ get_or ws (q + m) 0 → w < 1024 → (counts : List ℕ) → length counts ≡ 1024 → ((c : ℕ) → c < 1024 → get_or counts c 0 ≡ hits ws c q m) → (c : ℕ) → c < 1024 → get_or (set counts w (get_or counts w 0 + 1)) c 0 ≡ hits ws c q (m + 1)
counted_more ws q m w w_is low counts long so_far c h = one_more ∙ sym (ap (hits ws c q) (add-one m) ∙ ap (λ x. hits ws c q m + cond (eqb x c) 1 0) (sym w_is))
  where
    one_more : get_or (set counts w (get_or counts w 0 + 1)) c 0 ≡ hits ws c q m + cond (eqb w c) 1 0
    one_more = ⊎_elim
        (λ (e : w ≡ c). rw (eq-eqb w c e, e) (get_or-set_same counts c (get_or counts c 0 + 1) 0 (omega arith) ∙ ap (λ x. x + 1) (so_far c h)))
        (λ (ne : w ≡ c → ⊥). rw (ne_eqb w c ne) (get_or-set_other counts w c _ 0 (λ e. ne (sym e)) ∙ (so_far c h ∙ omega arith)))
        (cases_eq w c)

-- whether a word stands among k places from p on
look : (ws : List ℕ) (c p k : ℕ) → ((q : ℕ) × (p ≤ q) × (q < p + k) × (get_or ws q 0 ≡ c)) ⊎ ((q : ℕ) → p ≤ q → q < p + k → get_or ws q 0 ≡ c → ⊥)
look ws c p zero = inr (λ q from to. absurd (omega arith))
look ws c p (suc k) = ⊎_elim
    (λ (here : get_or ws p 0 ≡ c). inl (p, omega arith, omega arith, here))
    (λ (no : get_or ws p 0 ≡ c → ⊥). ⊎_elim
    (λ later. inl (later.0, (let a = later.1 in omega arith), (let b = later.2 in omega arith), later.3))
    (λ none. inr (λ q from to is. ⊎_elim
    (λ (e : p ≡ q). no (ap (λ j. get_or ws j 0) e ∙ is))
    (λ (ne : p ≡ q → ⊥). none q (omega (arith, ne)) (omega arith) is)
    (cases_eq p q)))
    (look ws c (p + 1) k))
    (cases_eq (get_or ws p 0) c)

eqb_swap : (i c : ℕ) → eqb i c ≡ eqb c i
eqb_swap i c = ⊎_elim (λ (e : i ≡ c). eq-eqb i c e ∙ sym (eq-eqb c i (sym e))) (λ (ne : i ≡ c → ⊥). ne_eqb i c ne ∙ sym (ne_eqb c i (λ e. ne (sym e)))) (cases_eq i c)

-- a column of a sheet
pub column_past : {F : Type 0} (s : Semiring F) (n : ℕ) (ws : List ℕ) (fs : List F) → Sound s n ws fs → (k : ℕ) → k < length ws - (n + 1) → get_or (take (length ws - (n + 1)) (drop (n + 1) ws)) k 0 < n
column_past s n ws fs sound k low = rw (part_at ws (n + 1) (length ws) k 0 low) ((sound.rules (n + 1 + k) (omega arith)).cell (omega arith)).column_below

module _ {F : Type 0} (s : Semiring F) (n : ℕ) (ws : List ℕ) (fs : List F) (sound : Sound s n ws fs) where
  -- a cell is stored in a sheet just where the flipped table stores it
  pub stored_swap : (i c : ℕ) → stored s c (flipped (table s ws fs) c) i ≡ stored s i (table s ws fs i) c
  stored_swap i c = ap (λ b. not b && not (s.is_zero (table s ws fs i c))) (eqb_swap i c)

  module _ (c i : ℕ) (i_low : i < n) where
    past : n < get_or ws i 0
    past = row_past s n ws fs sound i (omega arith)

    up : get_or ws i 0 ≤ get_or ws (i + 1) 0
    up = sound_rises s n ws fs sound i (i + 1) (omega arith) (omega arith)

    -- in row i, up to the column's own place, it does not stand
    pub hits_here : (p : ℕ) → get_or ws i 0 ≤ p → p < get_or ws (i + 1) 0 → get_or ws p 0 ≡ c → hits ws c (n + 1) (p - (n + 1)) ≡ hits ws c (n + 1) (get_or ws i 0 - (n + 1))
    hits_here p from to is =
        let low = past in
        hits_none ws c (n + 1) (get_or ws i 0 - (n + 1)) (p - (n + 1)) (omega arith) (λ j at_least_lem before e. let rise = columns_rise s n ws fs sound i i_low j p (omega arith) (omega arith) to in omega arith)

    -- a row has the column once where it is stored, and else not
    hits_row : hits ws c (n + 1) (get_or ws (i + 1) 0 - (n + 1)) ≡ hits ws c (n + 1) (get_or ws i 0 - (n + 1)) + cond (stored s c (flipped (table s ws fs) c) i) 1 0
    hits_row = ⊎_elim
        (λ found.
        let q = found.0 in
        let from = found.1 in
        let to = found.2 in
        let is = found.3 in
        let low = past in
        let rises = up in
        let short : q < get_or ws (i + 1) 0 = omega arith in
        let yes : stored s c (flipped (table s ws fs) c) i ≡ true = stored_swap i c ∙ subst (λ d. stored s i (table s ws fs i) d ≡ true) is (cell_stored s n ws fs sound i i_low q from short) in
        let before = hits_here q from short is in
        let step : hits ws c (n + 1) (q + 1 - (n + 1)) ≡ hits ws c (n + 1) (q - (n + 1)) + 1 = hits_more ws c (n + 1) q (omega arith) ∙ ap (λ b. hits ws c (n + 1) (q - (n + 1)) + cond b 1 0) (eq-eqb (get_or ws q 0) c is) in
        let after : hits ws c (n + 1) (get_or ws (i + 1) 0 - (n + 1)) ≡ hits ws c (n + 1) (q + 1 - (n + 1)) = hits_none ws c (n + 1) (q + 1 - (n + 1)) (get_or ws (i + 1) 0 - (n + 1)) (omega arith) (λ j at_least_lem before e. let rise = columns_rise s n ws fs sound i i_low q j from (omega arith) (omega arith) in omega arith) in
        rw yes (omega arith))
        (λ none.
        let low = past in
        let rises = up in
        let no : stored s c (flipped (table s ws fs) c) i ≡ false = stored_swap i c ∙ none_stored s n ws fs sound i i_low c (λ q from to is. none q from (omega arith) is) in
        let same = hits_none ws c (n + 1) (get_or ws i 0 - (n + 1)) (get_or ws (i + 1) 0 - (n + 1)) (omega arith) (λ j at_least_lem before e. none j (omega arith) (omega arith) e) in
        rw no (omega arith))
        (look ws c (get_or ws i 0) (get_or ws (i + 1) 0 - get_or ws i 0))

  -- the places before row i hold a column as often as the flipped table's row stores columns below i
  pub hits_rows : (c i : ℕ) → i ≤ n → hits ws c (n + 1) (get_or ws i 0 - (n + 1)) ≡ length (columns_below s c (flipped (table s ws fs) c) i)
  hits_rows c zero low =
      let room = sound.room in
      let first = ((sound.rules 0 (omega arith)).head (omega arith)).first refl in
      let none : get_or ws 0 0 - (n + 1) ≡ 0 = omega arith in
      rw none refl
  hits_rows c (suc i) low =
      let before = hits_rows c i (omega arith) in
      let e : i + 1 ≡ suc i = add-one i in
      let row : hits ws c (n + 1) (get_or ws (suc i) 0 - (n + 1)) ≡ hits ws c (n + 1) (get_or ws i 0 - (n + 1)) + cond (stored s c (flipped (table s ws fs) c) i) 1 0 = subst (λ x. hits ws c (n + 1) (get_or ws x 0 - (n + 1)) ≡ hits ws c (n + 1) (get_or ws i 0 - (n + 1)) + cond {A = ℕ} (stored s c (flipped (table s ws fs) c) i) 1 0) e (hits_row c i (omega arith)) in
      ⊎_elim
      (λ (yes : stored s c (flipped (table s ws fs) c) i ≡ true).
      let more : length (columns_below s c (flipped (table s ws fs) c) (suc i)) ≡ length (columns_below s c (flipped (table s ws fs) c) i) + 1 = rw e at (ap length (columns_yes s c (flipped (table s ws fs) c) i yes) ∙ length_push (columns_below s c (flipped (table s ws fs) c) i) i) in
      let one = ap (λ b. cond {A = ℕ} b 1 0) yes in
      omega arith)
      (λ (no : stored s c (flipped (table s ws fs) c) i ≡ false).
      let same : length (columns_below s c (flipped (table s ws fs) c) (suc i)) ≡ length (columns_below s c (flipped (table s ws fs) c) i) = rw e at (ap length (columns_no s c (flipped (table s ws fs) c) i no)) in
      let none = ap (λ b. cond {A = ℕ} b 1 0) no in
      omega arith)
      (cases_Bool (stored s c (flipped (table s ws fs) c) i))

  -- all places: the flipped table's row
  pub hits_all : (c : ℕ) → hits ws c (n + 1) (length ws - (n + 1)) ≡ length (row_columns s n (flipped (table s ws fs)) c)
  hits_all c = let last = ((sound.rules n sound.room).head (omega arith)).last refl in ap (λ x. hits ws c (n + 1) (x - (n + 1))) (sym last) ∙ hits_rows c n (omega arith)

-- f 0 + f 1 + … + f (n - 1)
abbrev spread : ℕ → (ℕ → ℕ) → ℕ
spread zero f = 0
spread (suc n) f = spread n f + f n

spread_add : (n : ℕ) (f g : ℕ → ℕ) → spread n (λ c. f c + g c) ≡ spread n f + spread n g
spread_add zero f g = refl
spread_add (suc n) f g = let before = spread_add n f g in omega arith

spread_none : (n w : ℕ) → n ≤ w → spread n (λ c. cond (eqb w c) 1 0) ≡ 0
spread_none zero w le = refl
spread_none (suc n) w le = rw (ne_eqb w n (λ e. omega arith)) (let before = spread_none n w (omega arith) in omega arith)

spread_one : (n w : ℕ) → w < n → spread n (λ c. cond (eqb w c) 1 0) ≡ 1
spread_one zero w low = absurd (omega arith)
spread_one (suc n) w low = ⊎_elim
    (λ (h : w < n). rw (ne_eqb w n (λ e. omega arith)) (let before = spread_one n w h in omega arith))
    (λ (h : n ≤ w). let e : w ≡ n = omega arith in let before = spread_none n w h in rw (eq-eqb w n e) (omega arith))
    (cases_lt w n)

-- each place holds one column
spread_hits : (ws : List ℕ) (n q m : ℕ) → ((i : ℕ) → q ≤ i → i < q + m → get_or ws i 0 < n) → spread n (λ c. hits ws c q m) ≡ m
spread_hits ws n q zero below = none n
  where
    none : (n : ℕ) → spread n (λ c. 0) ≡ 0
    none zero = refl
    none (suc n) = let before = none n in omega arith
spread_hits ws n q (suc m) below =
    spread_add n (λ c. hits ws c q m) (λ c. cond (eqb (get_or ws (q + m) 0) c) 1 0)
    ∙ ap₂ ◌+◌ (spread_hits ws n q m (λ i from to. below i from (omega arith))) (spread_one n (get_or ws (q + m) 0) (below (q + m) (omega arith) (omega arith)))
    ∙ add-one m

module _ {F : Type 0} (s : Semiring F) (n : ℕ) (ws : List ℕ) (fs : List F) (sound : Sound s n ws fs) where
  starts_spread : (r : ℕ) → row_start s n (flipped (table s ws fs)) r ≡ n + 1 + spread r (λ c. hits ws c (n + 1) (length ws - (n + 1)))
  starts_spread zero = omega arith
  starts_spread (suc r) = let before = starts_spread r in let here = hits_all s n ws fs sound r in omega arith

  -- the flipped sheet is as long as the sheet
  pub flipped_length : packed_length s n (flipped (table s ws fs)) ≡ length ws
  flipped_length =
      let room = sound.room in
      let all = starts_spread n in
      let places = spread_hits ws n (n + 1) (length ws - (n + 1)) (λ i from to. ((sound.rules i (omega arith)).cell (omega arith)).column_below) in
      omega arith
