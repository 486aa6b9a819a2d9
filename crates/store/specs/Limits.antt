-- Document 01, "The store": "At most 1,024 rows, 64 authors and 4,096 dependencies; .. 63 dependencies a message."
-- Assumes nothing.
use Rattle.std.specs.Prelude.{ℕ}

-- The most rows of a store.
abbrev pub row_limit : ℕ
row_limit = 1024

-- The most authors of a store.
abbrev pub author_limit : ℕ
author_limit = 64

-- The most dependencies of a store.
abbrev pub dep_limit : ℕ
dep_limit = 4096

-- "for each row its author, previous row, index and number of dependencies": how many numbers a row has.
abbrev pub row_width : ℕ
row_width = 4

-- The most dependencies of a message.
abbrev pub row_dep_limit : ℕ
row_dep_limit = 63

-- Document 02, §8: "Keep the number in the store, one per row. .. The successors of none are kept too, one number per author":
-- the most numbers of the part branches, those of the authors before those of the rows.
abbrev pub branch_limit : ℕ
branch_limit = 1088
