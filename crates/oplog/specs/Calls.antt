-- A call of a program, and a program that is to be installed, as their users see them.
use Rattle.std.specs.Prelude.{ℕ, ◌-◌, List, ◌++◌, length, replicate}
use Rattle.verifier.specs.declared.refusal.Mode.{Mode}

-- a program of the catalogue, by its number, and the bytes of its argument
pub record Call : Type 0 where
  pub program : ℕ
  pub argument : List ℕ

-- a program to be installed: its mode, the length of its argument, and the bytes of its instructions
pub record NewProgram : Type 0 where
  pub mode : Mode
  pub arg_len : ℕ
  pub bytes : List ℕ

-- bytes, and zeros up to so many in all
abbrev pub padded : ℕ → List ℕ → List ℕ
padded size bytes = bytes ++ replicate (size - length bytes) 0
