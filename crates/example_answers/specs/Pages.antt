-- What stands on a page after a command wrote on it.
use Rattle.std.specs.Prelude.{◌≡◌, ℕ, List, codes, true}
use Rattle.engine.specs.declared.replies.Status.{Status}
use Rattle.engine.specs.declared.replies.Status.TheVariants as statuses
use Rattle.engine.specs.declared.in_memory.Page.{Page}

-- all is well and the text stands there; or memory ran out, before it was written or on the page
abbrev pub IsOnPage : List ℕ → Status → Page → Type 0
IsOnPage text statuses.Good page = page.text.items ≡ text
IsOnPage text statuses.NoMemory page = page.text.items ≡ codes "no memory\n"
IsOnPage text statuses.CannotWrite page = page.is_full ≡ true
IsOnPage text statuses.Refused page = ⊥
IsOnPage text statuses.Differs page = ⊥
IsOnPage text statuses.CannotRead page = ⊥
