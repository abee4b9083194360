-- What a call does that is lent the arrays of a book.
use Rattle.std.specs.Prelude.{◌≡◌, ℕ, List, Result}
use Rattle.std.specs.Borrow.{MutBor}
use Rattle.std.specs.Fn.{Once}
use Rattle.sheet.specs.declared.refusal.Refusal.{Refusal}
use Rattle.book.specs.Book.{Arrays}

-- a call of c on the arrays may answer r, and leave them as `after` says
pub record Lent {C S : Type 0} (call : Once C (MutBor (List ℕ) × (MutBor (List ℕ) × (MutBor (List S) × Unit {0}))) (Result ℕ Refusal × (MutBor (List ℕ) × (MutBor (List ℕ) × (MutBor (List S) × Unit {0}))))) (c : C) (before : Arrays S) (r : Result ℕ Refusal) (after : Arrays S) : Type 0 where
  pub header : MutBor (List ℕ)
  pub index : MutBor (List ℕ)
  pub figures : MutBor (List S)
  pub lent : before ≡ record { header = header.now; index = index.now; figures = figures.now }
  pub header' : MutBor (List ℕ)
  pub index' : MutBor (List ℕ)
  pub figures' : MutBor (List S)
  pub met : call.post c (header, (index, (figures, tt))) (r, (header', (index', (figures', tt))))
  pub left : after ≡ record { header = header'.now; index = index'.now; figures = figures'.now }
