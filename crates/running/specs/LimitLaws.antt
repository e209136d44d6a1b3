-- When it doesn't matter how many updates a history may have.
use Rattle.std.specs.Prelude.{◌≡◌, ℕ, ◌+◌, ◌≤◌, List, [], ◌∷◌, length}
use Rattle.std.specs.Option.{option_map_or}
use Rattle.loader.specs.CatalogueView.{CatalogueView}
use Rattle.oplog.specs.History.{History}
use Rattle.running.specs.RunAnswer.{line_turn, lines_answer}

-- the history that lines come to, of so many records at most: behind all of them, or before the first that is bad
unfoldable pub lines_reached : ℕ → CatalogueView → History → List (List ℕ) → History
lines_reached limit c history [] = history
lines_reached limit c history (l ∷ ls) = option_map_or (λ turn. lines_reached limit c turn.history ls) (line_turn limit c history l) history

-- lines that under a greater limit come to no more updates than this one allows write the same under both
abbrev pub LimitIsUnfelt : Type 0
LimitIsUnfelt =
    (limit greater : ℕ) (c : CatalogueView) (n : ℕ) (h : History) (ls : List (List ℕ)) → limit ≤ greater → length (lines_reached greater c h ls) ≤ limit
    → lines_answer limit c n h ls ≡ lines_answer greater c n h ls

-- so do lines that are no more than it leaves updates
abbrev pub FewLinesAreAlike : Type 0
FewLinesAreAlike =
    (limit greater : ℕ) (c : CatalogueView) (n : ℕ) (h : History) (ls : List (List ℕ)) → limit ≤ greater → length h + length ls ≤ limit
    → lines_answer limit c n h ls ≡ lines_answer greater c n h ls
