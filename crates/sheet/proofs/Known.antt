-- A sheet of which it is only known that some proof of its soundness exists, as the type of a sheet says it, is sound: each
-- rule can be told, and a position lies in one row.
use Rattle.std.proofs.Common.{◌≡◌, ℕ, zero, suc, ◌+◌, ◌<◌, ◌≤◌, cond, ltb, List, length, get_or, ◌∙◌, ⊎_elim, arith}
use Rattle.std.proofs.Math.Logic.{∥∥₁_elim}
use Rattle.std.proofs.Math.Nat.{ℕ_set}
use Rattle.std.proofs.Math.Bridge.{le_prop}
use Rattle.std.proofs.lemmas.Bool.{cases_lt, lt-ltb, le-ltb}
use mathlib.Core.Bool.{Bool-set}
use Rattle.arithmetic.specs.Semiring.{Semiring, meanings}
use Rattle.arithmetic.specs.declared.Arithmetic.{Ghosts}
use Rattle.sheet.specs.declared.sound.Sheet.{Sheet}
use Rattle.sheet.specs.Packed.{Rising, Head, Cell, Sound}
use Rattle.sheet.proofs.Found.{sound_rises}

-- the last of the first m rows that starts no later than p
row_at : List ℕ → ℕ → ℕ → ℕ
row_at ws p zero = 0
row_at ws p (suc m) = cond (ltb p (get_or ws m 0)) (row_at ws p m) m

row_at_is : (n : ℕ) (ws : List ℕ) → Rising n ws → (p r : ℕ) → get_or ws r 0 ≤ p → p < get_or ws (r + 1) 0 → (m : ℕ) → r < m → m ≤ n → row_at ws p m ≡ r
unfolding row_at
row_at_is n ws up p r from to zero low le = absurd (omega arith)
row_at_is n ws up p r from to (suc m) low le = ⊎_elim
    (λ (h : p < get_or ws m 0).
    let less : r < m = ⊎_elim (λ (g : r < m). g) (λ (g : m ≤ r). let e : m ≡ r = omega arith in let here : get_or ws m 0 ≤ p = rw e from in absurd (omega arith)) (cases_lt r m) in
    rw (lt-ltb p (get_or ws m 0) h) (row_at_is n ws up p r from to m less (omega arith)))
    (λ (h : get_or ws m 0 ≤ p).
    let same : m ≡ r = ⊎_elim (λ (g : r < m). let later = up (r + 1) m (omega arith) (omega arith) in absurd (omega arith)) (λ (g : m ≤ r). omega arith) (cases_lt r m) in
    rw (le-ltb p (get_or ws m 0) h) same)
    (cases_lt p (get_or ws m 0))

module _ {F : Type 0} (s : Semiring F) (n : ℕ) (ws : List ℕ) (fs : List F) (t : ∥ Sound s n ws fs ∥₁) where
  module _ (p : ℕ) (low : p < length ws) (high : n < p) where
    row_is : (x : Sound s n ws fs) → row_at ws p n ≡ ((x.rules p low).cell high).row
    row_is x = let k = (x.rules p low).cell high in row_at_is n ws (sound_rises s n ws fs x) p k.row k.from k.to n k.row_below (omega arith)

    known_cell : Cell s n ws fs p
    known_cell = record {
      row = row_at ws p n;
      row_below = ∥∥₁_elim t le_prop (λ x. rw (row_is x) ((x.rules p low).cell high).row_below);
      from = ∥∥₁_elim t le_prop (λ x. rw (row_is x) ((x.rules p low).cell high).from);
      to = ∥∥₁_elim t le_prop (λ x. rw (row_is x) ((x.rules p low).cell high).to);
      column_below = ∥∥₁_elim t le_prop (λ x. ((x.rules p low).cell high).column_below);
      off = λ e. ∥∥₁_elim t (λ a b. absurd a) (λ x. ((x.rules p low).cell high).off (e ∙ row_is x));
      rises = λ h. ∥∥₁_elim t le_prop (λ x. ((x.rules p low).cell high).rises (rw (row_is x) at h));
      figure = λ e. ∥∥₁_elim t (λ a b. absurd a) (λ x. ((x.rules p low).cell high).figure e);
    }

  known_head : (p : ℕ) → p < length ws → p ≤ n → Head s n ws fs p
  known_head p low le = record {
    first = λ e. ∥∥₁_elim t (ℕ_set _ _) (λ x. ((x.rules p low).head le).first e);
    rises = λ h. ∥∥₁_elim t le_prop (λ x. ((x.rules p low).head le).rises h);
    within = λ h. ∥∥₁_elim t le_prop (λ x. ((x.rules p low).head le).within h);
    last = λ e. ∥∥₁_elim t (ℕ_set _ _) (λ x. ((x.rules p low).head le).last e);
    spare = λ e. (s.tests_zero _).0 (∥∥₁_elim t (Bool-set _ _) (λ x. (s.tests_zero _).1 (((x.rules p low).head le).spare e)));
  }

  sound_known : Sound s n ws fs
  sound_known = record {
    room = ∥∥₁_elim t le_prop (λ x. x.room);
    rules = λ p low. record { head = known_head p low; cell = known_cell p low };
  }

-- a sheet is sound, as its type says
pub sheet_sound : {S : Type 0} {g : Ghosts S} (sheet : Sheet S g) → Sound g.figures.ring sheet.order sheet.words.now (meanings g.figures sheet.figures.now)
sheet_sound {g = g} sheet = sound_known g.figures.ring sheet.order sheet.words.now (meanings g.figures sheet.figures.now) sheet.sound
