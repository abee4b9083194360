-- The numbers that bound a book.
use Rattle.std.specs.Prelude.{ℕ}

-- how many words a header has
abbrev pub header_words : ℕ
header_words = 19

-- how many sheets a book can have
abbrev pub most_sheets : ℕ
most_sheets = 16

abbrev pub largest_order : ℕ
largest_order = 1024

abbrev pub largest_capacity : ℕ
largest_capacity = 65536
