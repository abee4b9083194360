-- The rows of a sheet, by their starts.
use Rattle.std.proofs.Common.{◌≡◌, ℕ, zero, suc, ◌+◌, ◌-◌, ◌<◌, ◌≤◌, List, length, get_or, ⊎_elim, arith}
use Rattle.std.proofs.lemmas.Bool.{cases_lt, cases_order}
use Rattle.arithmetic.specs.Semiring.{Semiring}
use Rattle.sheet.specs.Packed.{Rule, Rising}

pub rising : (n : ℕ) (ws : List ℕ) → ((p : ℕ) → 0 < p → p ≤ n → get_or ws (p - 1) 0 ≤ get_or ws p 0) → Rising n ws
rising n ws up i zero low high = let e : i ≡ 0 = omega arith in rw e (omega arith)
rising n ws up i (suc j) low high = ⊎_elim
    (λ (h : i < suc j).
    let e : suc j - 1 ≡ j = omega arith in
    let step : get_or ws j 0 ≤ get_or ws (suc j) 0 = rw e at (up (suc j) (omega arith) high) in
    let before : get_or ws i 0 ≤ get_or ws j 0 = rising n ws up i j (omega arith) (omega arith) in
    omega arith)
    (λ (h : suc j ≤ i). let e : i ≡ suc j = omega arith in rw e (omega arith))
    (cases_lt i (suc j))

-- a position lies in one row
pub same_row : (n : ℕ) (ws : List ℕ) → Rising n ws → (p r t : ℕ) → r < n → t < n → get_or ws r 0 ≤ p → p < get_or ws (r + 1) 0 → get_or ws t 0 ≤ p → p < get_or ws (t + 1) 0 → r ≡ t
same_row n ws up p r t r_below t_below from to from' to' = ⊎_elim
    (λ e. e)
    (⊎_elim
    (λ (h : r < t). absurd (omega (arith, up (r + 1) t (omega arith) (omega arith))))
    (λ (h : t < r). absurd (omega (arith, up (t + 1) r (omega arith) (omega arith)))))
    (cases_order r t)

-- the head keeps its rule: the starts rise
pub heads_rise : {F : Type 0} (s : Semiring F) (n : ℕ) (ws : List ℕ) (fs : List F) → ((p : ℕ) → p ≤ n → Rule s n ws fs p) → Rising n ws
heads_rise s n ws fs keep = rising n ws (λ p low high. ((keep p high).head high).rises low)

-- how far a walk over the cells has come: it stands at position p, in row r, and all before p keep their rule
pub record Walk {F : Type 0} (s : Semiring F) (n : ℕ) (ws : List ℕ) (fs : List F) (p r : ℕ) : Type 0 where
  pub past : n < p
  pub within : p ≤ length ws
  pub row : r ≤ n
  pub from : get_or ws r 0 ≤ p
  pub keep : (j : ℕ) → j < p → Rule s n ws fs j

pub walk_rises : {F : Type 0} {s : Semiring F} {n : ℕ} {ws : List ℕ} {fs : List F} {p r : ℕ} → Walk s n ws fs p r → Rising n ws
walk_rises {s = s} {n = n} {ws = ws} {fs = fs} w = heads_rise s n ws fs (λ j h. let past = w.past in w.keep j (omega arith))
