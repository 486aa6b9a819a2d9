-- A piece of 32 bytes of a byte list: a key or an id in a lent part.
-- Assumes nothing.
use Rattle.std.specs.Prelude.{ℕ, List, take, drop}

-- How many bytes a key or an id has.
abbrev pub chunk_size : ℕ
chunk_size = 32

-- The 32 bytes of `s` from place `i` on, fewer where `s` ends before.
abbrev pub chunk_at : ℕ → List ℕ → List ℕ
chunk_at i s = take chunk_size (drop i s)
