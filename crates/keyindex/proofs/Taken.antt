-- A free node taken for a key.
use Rattle.std.proofs.Common.{◌≡◌, ◌≢◌, ℕ, zero, suc, ◌+◌, ◌*◌, ◌-◌, ◌<◌, ◌≤◌, List, sym, ap, ◌∙◌, subst, arith, inl, inr, length, get_or, set, Some, None}
use Rattle.std.proofs.lemmas.Bool.{cases_eq}
use Rattle.std.proofs.lemmas.List.{length-set, get_or-set_same, get_or-set_other}
use Rattle.keyindex.specs.Walks.{walk, cell}
use Rattle.keyindex.specs.Indexes.{at, key_of, standing, key_at, in_use, HasRoom, HasFree, IsIndex}
use Rattle.keyindex.proofs.Found.{cell_within, key_within}
use Rattle.keyindex.proofs.Put.{Inserts, Fills, inserted}
use Rattle.keyindex.proofs.Parts.{Wrote, key_here, key_there, one_more_used}

-- key x goes to node v, the last of the free ones, by the link at c, at depth t
pub record Takes (size b : ℕ) (links depths keys keys2 free : List ℕ) (count : ℕ) (x : List ℕ) (t c v : ℕ) : Type 0 where
  pub room : HasRoom size b links depths keys free
  pub index : IsIndex size b links depths keys
  pub store : HasFree depths free count
  pub some_free : 0 < count
  pub last : v ≡ get_or free (count - 1) 0
  pub length_is : length x ≡ size
  pub deep : t ≤ 8 * size
  pub cell_is : c ≡ cell b (at links) x t
  pub nowhere : walk b (at links) x t ≡ 0
  pub before : (e : ℕ) → t ≡ suc e → walk b (at links) x e ≢ 0
  pub absent : (n : ℕ) → at depths n ≢ 0 → key_of size keys n ≢ x
  pub wrote : Wrote keys keys2 (v * size) size x

pub record Took (size b : ℕ) (links depths keys free : List ℕ) (count : ℕ) : Type 0 where
  pub room : HasRoom size b links depths keys free
  pub index : IsIndex size b links depths keys
  pub store : HasFree depths free count

pub low_node : (size b : ℕ) (links depths keys keys2 free : List ℕ) (count : ℕ) (x : List ℕ) (t c v : ℕ) → Takes size b links depths keys keys2 free count x t c v → (0 < v) × (v < length depths) × (at depths v ≡ 0)
low_node size b links depths keys keys2 free count x t c v h =
    let within : count - 1 < count = let p = h.some_free in omega (arith, p) in
    (subst (λ n. 0 < n) (sym h.last) (h.store.low (count - 1) within), subst (λ n. n < length depths) (sym h.last) (h.store.high (count - 1) within), ap (at depths) h.last ∙ h.store.unused (count - 1) within)

pub fills : (size b : ℕ) (links depths keys keys2 free : List ℕ) (count : ℕ) (x : List ℕ) (t c v : ℕ) → Takes size b links depths keys keys2 free count x t c v
    → Fills (at depths) (at (set depths v (t + 1))) (key_of size keys) (key_of size keys2) x t v
fills size b links depths keys keys2 free count x t c v h =
    let node = low_node size b links depths keys keys2 free count x t c v h in
    record {
      depth_is = get_or-set_same depths v (t + 1) 0 node.1 ∙ omega arith;
      depths = λ n ne. get_or-set_other depths v n (t + 1) 0 ne;
      key_is = key_here size v keys keys2 x h.wrote h.length_is (key_within size b links depths keys free h.room v node.1).0;
      keys = λ n ne. key_there size (length depths) v n keys keys2 x h.wrote h.room.keys_len ne;
    }

pub took : (size b : ℕ) (links depths keys keys2 free : List ℕ) (count : ℕ) (x : List ℕ) (t c v : ℕ) → Takes size b links depths keys keys2 free count x t c v
    → Took size b (set links c v) (set depths v (t + 1)) keys2 free (count - 1)
took size b links depths keys keys2 free count x t c v h =
    let node = low_node size b links depths keys keys2 free count x t c v h in
    let within : c < length links = subst (λ i. i < length links) (sym h.cell_is) (cell_within size b links depths keys free h.room x t) in
    let inserts : Inserts b (at links) (at (set links c v)) (at depths) x t c v = record {
      buckets = h.room.buckets_low;
      cell_is = h.cell_is;
      nowhere = h.nowhere;
      before = h.before;
      unused = node.2;
      some = let p = node.0 in omega (arith, p);
      here = get_or-set_same links c v 0 within;
      other = λ i ne. get_or-set_other links c i v 0 ne;
    } in
    let same = length-set depths v (t + 1) in
    let same_links = length-set links c v in
    let r = h.room in
    let fewer : (i : ℕ) → i < count - 1 → get_or free i 0 ≢ v = λ i low e.
    let one : i ≡ count - 1 = h.store.distinct i (count - 1) (omega (arith, low)) (omega (arith, low)) (e ∙ h.last) in omega (arith, one, low) in
    record {
      room = record {
        size_low = r.size_low;
        size_high = r.size_high;
        buckets_low = r.buckets_low;
        buckets_high = r.buckets_high;
        nodes_low = let p = r.nodes_low in omega (arith, same, p);
        nodes_high = let p = r.nodes_high in omega (arith, same, p);
        links_len = let p = r.links_len in omega (arith, same, same_links, p);
        keys_len = h.wrote.len ∙ (r.keys_len ∙ ap (λ n. n * size) (sym same));
        free_len = r.free_len ∙ sym same;
        links_in = λ i. subst (λ n. at (set links c v) i < n) (sym same) (elim (cases_eq i c) [
          | inl e ↦ subst (λ n. n < length depths) (sym (ap (at (set links c v)) e ∙ inserts.here)) node.1
          | inr ne ↦ subst (λ n. n < length depths) (sym (inserts.other i ne)) (r.links_in i)
        ]);
        short = λ n. elim (cases_eq n v) [
          | inl e ↦ let is : at (set depths v (t + 1)) n ≡ t + 1 = ap (at (set depths v (t + 1))) e ∙ get_or-set_same depths v (t + 1) 0 node.1 in let p = h.deep in omega (arith, is, p)
          | inr ne ↦ let is : at (set depths v (t + 1)) n ≡ at depths n = get_or-set_other depths v n (t + 1) 0 ne in let p = r.short n in omega (arith, is, p)
        ];
      };
      index = inserted b (at links) (at (set links c v)) (at depths) (at (set depths v (t + 1))) (key_of size keys) (key_of size keys2) x t c v h.index inserts (fills size b links depths keys keys2 free count x t c v h) h.absent;
      store = record {
        within = let p = h.store.within in omega (arith, p);
        low = λ i p. h.store.low i (omega (arith, p));
        high = λ i p. subst (λ n. get_or free i 0 < n) (sym same) (h.store.high i (omega (arith, p)));
        unused = λ i p. get_or-set_other depths v (get_or free i 0) (t + 1) 0 (fewer i p) ∙ h.store.unused i (omega (arith, p));
        distinct = λ i j p q e. h.store.distinct i j (omega (arith, p)) (omega (arith, q)) e;
        all =
            let more : in_use (set depths v (t + 1)) ≡ suc (in_use depths) = ap (λ n. in_use (set depths v n)) (let one : t + 1 ≡ suc t = omega arith in one) ∙ one_more_used depths v t node.1 node.2 in
            let p = h.store.all in let q = h.some_free in omega (arith, more, p, q);
      };
    }

-- ---- what callers see

pub standing_some : (d : ℕ) (k x : List ℕ) → standing d k ≡ Some x → (d ≢ 0) × (k ≡ x)
standing_some zero k x e = cc
standing_some (suc d) k x e = (λ z. omega (arith, z), cc)

pub stands_no_more : (size : ℕ) (depths keys x : List ℕ) → ((n : ℕ) → at depths n ≢ 0 → key_of size keys n ≢ x) → (place : ℕ) → key_at size depths keys place ≢ Some x
stands_no_more size depths keys x absent place e =
    let it = standing_some (at depths (place + 1)) (key_of size keys (place + 1)) x e in absent (place + 1) it.0 it.1

pub took_found : (size b : ℕ) (links depths keys keys2 free : List ℕ) (count : ℕ) (x : List ℕ) (t c v : ℕ) → Takes size b links depths keys keys2 free count x t c v → key_at size (set depths v (t + 1)) keys2 (v - 1) ≡ Some x
took_found size b links depths keys keys2 free count x t c v h =
    let f = fills size b links depths keys keys2 free count x t c v h in
    let node = low_node size b links depths keys keys2 free count x t c v h in
    let e : v - 1 + 1 ≡ v = let p = node.0 in omega (arith, p) in
    ap (λ n. standing (at (set depths v (t + 1)) n) (key_of size keys2 n)) e ∙ (ap (λ d. standing d (key_of size keys2 v)) f.depth_is ∙ ap Some f.key_is)

pub took_others : (size b : ℕ) (links depths keys keys2 free : List ℕ) (count : ℕ) (x : List ℕ) (t c v : ℕ) → Takes size b links depths keys keys2 free count x t c v
    → (q : ℕ) → q ≢ v - 1 → key_at size (set depths v (t + 1)) keys2 q ≡ key_at size depths keys q
took_others size b links depths keys keys2 free count x t c v h q ne =
    let f = fills size b links depths keys keys2 free count x t c v h in
    let node = low_node size b links depths keys keys2 free count x t c v h in
    let other : q + 1 ≢ v = λ e. ne (omega (arith, e)) in
    ap (λ d. standing d (key_of size keys2 (q + 1))) (f.depths (q + 1) other) ∙ ap (standing (at depths (q + 1))) (f.keys (q + 1) other)

pub was_free : (size b : ℕ) (links depths keys keys2 free : List ℕ) (count : ℕ) (x : List ℕ) (t c v : ℕ) → Takes size b links depths keys keys2 free count x t c v → key_at size depths keys (v - 1) ≡ None
was_free size b links depths keys keys2 free count x t c v h =
    let node = low_node size b links depths keys keys2 free count x t c v h in
    let e : v - 1 + 1 ≡ v = let p = node.0 in omega (arith, p) in
    ap (λ n. standing (at depths n) (key_of size keys n)) e ∙ ap (λ d. standing d (key_of size keys v)) node.2

-- a node that is in use has its key at its place
pub stands_here : (size : ℕ) (depths keys x : List ℕ) (n d : ℕ) → n ≢ 0 → at depths n ≡ suc d → key_of size keys n ≡ x → key_at size depths keys (n - 1) ≡ Some x
stands_here size depths keys x n d some used is =
    let e : n - 1 + 1 ≡ n = omega (arith, some) in
    ap (λ i. standing (at depths i) (key_of size keys i)) e ∙ (ap (λ y. standing y (key_of size keys n)) used ∙ ap Some is)
