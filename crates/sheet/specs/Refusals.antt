-- A refusal's number and place.
use Rattle.std.specs.Prelude.{ℕ}
use Rattle.sheet.specs.declared.refusal.Refusal.{Refusal}
use Rattle.sheet.specs.declared.refusal.Refusal.TheVariants.{Layout, Order, Header, Position, Lengths, Sheet, Full, Misplaced, Room}

abbrev pub refusal_number : Refusal → ℕ
refusal_number (Layout p) = 1
refusal_number (Order p) = 2
refusal_number (Header p) = 3
refusal_number (Position p) = 4
refusal_number (Lengths p) = 5
refusal_number (Sheet p) = 6
refusal_number (Full p) = 7
refusal_number (Misplaced p) = 8
refusal_number (Room p) = 9

abbrev pub refusal_place : Refusal → ℕ
refusal_place (Layout p) = p
refusal_place (Order p) = p
refusal_place (Header p) = p
refusal_place (Position p) = p
refusal_place (Lengths p) = p
refusal_place (Sheet p) = p
refusal_place (Full p) = p
refusal_place (Misplaced p) = p
refusal_place (Room p) = p
