-- The lemmas that other crates may cite.
pub use Rattle.maps.proofs.EntriesAt.{joined}
pub use Rattle.maps.proofs.Kept.{MayPut, are_bytes, has_inserted, put_keeps, put_key, some_of, take_keeps}
pub use Rattle.maps.proofs.Keys.{key_differs, key_same, key_ties}
pub use Rattle.maps.proofs.OpeningShapes.{opening_shapes}
pub use Rattle.maps.proofs.Pages.{at_end, in_front}
pub use Rattle.maps.proofs.Placed.{found_at, get_nowhere, get_placed, index_at, index_distinct, index_stands, none_free}
pub use Rattle.maps.proofs.Stored.{all_get, map_there, stored_there}
pub use Rattle.maps.proofs.StoredShapes.{stored_are}
pub use Rattle.maps.proofs.TableKeys.{get_set_other, get_set_same, length_set}
pub use Rattle.maps.proofs.Written.{all_set, others_kept, put_value_at, take_key_at, whole}
