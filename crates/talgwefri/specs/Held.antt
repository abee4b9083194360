-- What the library sees of a book that is held in three vectors.
use Rattle.std.specs.Prelude.{vec_items}
use Rattle.book.specs.Book.{Arrays}
use Rattle.talgwefri.specs.declared.books.Book.{Book}

abbrev pub held : {S : Type 0} → Book S → Arrays S
held b = record { header = vec_items b.header; index = vec_items b.index; figures = vec_items b.figures }
