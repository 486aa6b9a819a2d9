-- The choice by a test, for definitions that test one thing after the other.
-- Assumes nothing.
use Rattle.std.specs.Prelude.{Bool, true, false}

-- The first where the test is true, else the second.
abbrev pub pick : {A : Type 0} → Bool → A → A → A
pick true a b = a
pick false a b = b

-- Both tests.
abbrev pub both : Bool → Bool → Bool
both true q = q
both false q = false

-- One of the two tests, or both.
abbrev pub either : Bool → Bool → Bool
either true q = true
either false q = q
