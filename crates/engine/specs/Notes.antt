-- What is told of a run beside its answer.
use Rattle.std.specs.Prelude.{◌≡◌}
use Rattle.engine.specs.declared.replies.Notes.{Notes}
use Rattle.engine.specs.declared.replies.Telling.TheVariants.{Nothing}

-- where nothing is to be told, nothing is
abbrev pub IsQuiet : Notes → Notes → Type 0
IsQuiet old new = old.telling ≡ Nothing → new ≡ old
