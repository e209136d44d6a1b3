-- What lies there is there, and its memory is room.
use Rattle.embed.proofs.Steps.{ℕ, [], ◌∷◌, ent, full_share, fat, Val, ‵, ◌⊛◌, some, ◌$◌, !, qed, done, keep, use1, split, pick, Logic, sem, One, part_out, Ura, layout, RattleType, Ptr, block_ptr, lies_at, room_at}
use Rattle.host_calls.specs.Rooms.{lies_there}

module _ {M : Type 1} {𝓤 : Ura M} (𝓛 : Logic 𝓤) (R : RattleType) where
  is_room : One R → (b o : ℕ) (h : R.Denot)
      → ent 𝓤 (sem 𝓛 (lies_at R full_share (block_ptr b o) h)) (sem 𝓛 (room_at R (block_ptr b o)))
  is_room one b o h =
      qed 𝓛 (‵ (lies_at R full_share (block_ptr b o) h) ∷ []) {P = sem 𝓛 (room_at R (block_ptr b o))} (
      use1 𝓛 (some (λ (v : Val). ‵ (fat full_share (layout R) b o v) ⊛ ‵ (R.own_val h (v ∷ [])))) (part_out 𝓛 R one full_share h b o) $ pick ! (λ v. split ! $ keep ! (0 ∷ []) $
      use1 𝓛 (‵ (room_at R (block_ptr b o))) (𝓛.laws.at_room (layout R) b o v) $ done !))

  pub is_there : One R → (b o : ℕ) (h : R.Denot)
      → ent 𝓤 (sem 𝓛 (lies_at R full_share (block_ptr b o) h)) (sem 𝓛 (lies_there R (block_ptr b o) h))
  is_there one b o h = record { apply = λ a x. (x, (is_room one b o h).apply a x) }

  pub lies : (p : Ptr) (h : R.Denot) → ent 𝓤 (sem 𝓛 (lies_there R p h)) (sem 𝓛 (lies_at R full_share p h))
  lies p h = record { apply = λ a x. x.0 }
