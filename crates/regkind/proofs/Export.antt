-- The lemmas that other crates may cite.
pub use Rattle.regkind.proofs.Laws.{IsFrame-blank, IsFrame-entry, IsFrame-with_cell, IsFrame-with_kind, IsFrame-with_marks, all_marked-covers, all_marked_each, blank_cell, cell-with_cell_other, cell-with_cell_same, cell-with_mark_other, cell-with_mark_same, cells_from_marks, covers-with_cell, covers-with_kind, covers-with_marks, covers_antisymmetric, covers_refl, covers_trans, kind-with_kind_other, kind-with_kind_same, kind-with_marks, mark-entry, mark-with_cell_other, mark-with_kind, mark-with_marks, marks_from_cells, pointer_refl}
