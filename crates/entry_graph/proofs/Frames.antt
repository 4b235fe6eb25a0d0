-- The walk's own stack: walks that wait, each for the one behind it.
use Prim.Native.Nat.{ℕ, zero, suc, ◌+◌, ◌*◌, ◌-◌, ◌/◌, ◌%◌, ◌<◌, ◌≤◌}
use mathlib.Core.Path.{◌≡◌, refl, ap, ◌∙◌, sym}
use mathlib.Core.Bool.{◌||◌}
use mathlib.Core.List.{List}
use native.Mathlib.Numerals.{add-one}
use native.Mathlib.Omega.{arith}
use borrow.Author.Count.{below_more}
use lib.Dec.{eqb}
use lib.ListN.{length, get_or, set}
use lib.Seq.{get_or-set_same, get_or-set_other}
use Rattle.graph_access.specs.index_crate.declared.ModuleIdx.{ModuleIdx}
use Rattle.bit_row.specs.Row.{bit_at}
use Rattle.graph_access.specs.graph_crate.Check.{Graph}
use Rattle.entry_graph.specs.declared.Built.TheVariants.{Nodes, Full}
use Rattle.entry_graph.specs.declared.Taken.{Taken}
use Rattle.entry_graph.specs.declared.Taken.TheVariants.{UpTo, All}
use Rattle.entry_graph.specs.Ordering.{Ordering}
use Rattle.entry_graph.specs.Memory.{ordering_in, Stored}
use Rattle.entry_graph.specs.Steps.{Holds, TakesRecords}
use Rattle.entry_graph.proofs.Walking.{take_from, walk_from, clash}

-- what the walks that wait do, the last frame's first
unfoldable pub waiting : Graph → ℕ → List ℕ → List ℕ → ℕ → Ordering → Ordering
waiting g M records walks zero s = s
waiting g M records walks (suc d) s = waiting g M records walks d (take_from g (M - 1 - d) (get_or walks d 0 % 1024) (get_or walks d 0 / 1024) (get_or records d 0) s)

-- the present walk, and then those that wait, is the whole walk
pub record Stacked (g : Graph) (M cap : ℕ) (whole : Ordering) (records walks visited nodes outs succs edges : List ℕ) (root m k c depth : ℕ) : Type 0 where
  pub stored : Stored M cap nodes c outs succs edges
  pub root_below : root < M
  pub module_below : m < M
  pub depth_below : depth < M
  pub waits_below : (d : ℕ) → d < depth → (get_or walks d 0 % 1024 < M) × (get_or walks d 0 / 1024 < M)
  pub on : waiting g M records walks depth (take_from g (M - 1 - depth) root m k (ordering_in M cap visited nodes c outs succs)) ≡ whole

module _ (g : Graph) (M : ℕ) (records walks : List ℕ) (at i root m : ℕ) where
  -- frames below a word that is stored do not read it
  waiting_set : (d : ℕ) (s : Ordering) → d ≤ at → waiting g M (set records at i) (set walks at (1024 * m + root)) d s ≡ waiting g M records walks d s
  unfolding waiting
  waiting_set zero s h = refl
  waiting_set (suc d) s h =
      let n : d ≡ at → ⊥ = λ e. omega arith in
      rw (get_or-set_other records at d i 0 n, get_or-set_other walks at d (1024 * m + root) 0 n) (waiting_set d _ (omega arith))

  module _ (h : at < length records) (l : at < length walks) (u : root < 1024) where
    -- the root and the module are read as they were stored
    root-at : get_or (set walks at (1024 * m + root)) at 0 % 1024 ≡ root
    root-at = let e = get_or-set_same walks at (1024 * m + root) 0 l in omega (arith, e)

    module-at : get_or (set walks at (1024 * m + root)) at 0 / 1024 ≡ m
    module-at = let e = get_or-set_same walks at (1024 * m + root) 0 l in omega (arith, e)

    -- with one frame more, its walk goes on before those of the others
    waiting-more : (s : Ordering) → waiting g M (set records at i) (set walks at (1024 * m + root)) (at + 1) s ≡ waiting g M records walks at (take_from g (M - 1 - at) root m i s)
    unfolding waiting
    waiting-more s = rw (add-one at, root-at, module-at, get_or-set_same records at i 0 h) (waiting_set at _ (omega arith))

    -- with one frame more, each frame's root and module are still below M
    waits-more : root < M → m < M → ((d : ℕ) → d < at → (get_or walks d 0 % 1024 < M) × (get_or walks d 0 / 1024 < M))
        → (d : ℕ) → d < at + 1 → (get_or (set walks at (1024 * m + root)) d 0 % 1024 < M) × (get_or (set walks at (1024 * m + root)) d 0 / 1024 < M)
    waits-more r b f =
        below_more _ _ (λ d p. let n : d ≡ at → ⊥ = λ e. omega arith in rw (get_or-set_other walks at d (1024 * m + root) 0 n) (f d p)) (rw (root-at, module-at) (r, b))

-- at first none waits
pub stacked_start : {g : Graph} {M cap : ℕ} {records walks visited nodes outs succs edges : List ℕ} {m c : ℕ} → Stored M cap nodes c outs succs edges → m < M
    → Stacked g M cap (take_from g (M - 1) m m 0 (ordering_in M cap visited nodes c outs succs)) records walks visited nodes outs succs edges m m 0 c 0
unfolding waiting
stacked_start {M = M} h l =
    let e : M - 1 - 0 ≡ M - 1 = omega arith in
    record { stored = h; root_below = l; module_below = l; depth_below = omega arith; waits_below = λ d n. absurd (omega arith); on = rw e refl }

module _ {g : Graph} {M cap : ℕ} {whole : Ordering} {records walks visited nodes outs succs edges : List ℕ} {root m k c depth : ℕ}
    (s : Stacked g M cap whole records walks visited nodes outs succs edges root m k c depth) {nodes' outs' succs' edges' : List ℕ} {r : Taken}
    (w : TakesRecords g M cap (M - 1 - depth) root m k visited nodes c outs succs nodes' outs' succs' edges' r) where
  -- the present walk waits for a new one
  pub stacked_in : (i : ℕ) (from t : ModuleIdx) (n : ℕ) → r ≡ UpTo i from t n → (visited' : List ℕ) → ((j : ℕ) → bit_at visited' j ≡ (eqb j t.0 || bit_at visited j))
      → depth < length records → depth < length walks
      → Stacked g M cap whole (set records depth i) (set walks depth (1024 * m + root)) visited' nodes' outs' succs' edges' from.0 t.0 0 n (depth + 1)
  unfolding waiting
  stacked_in i from t n q visited' f h l =
      let b = w.upto_below i from t n q in
      let u : root < 1024 = omega (arith, s.root_below, s.stored.few) in
      let less : M - 1 - (depth + 1) ≡ M - 1 - depth - 1 = omega arith in
      record {
        stored = w.upto_stored i from t n q;
        root_below = b.0;
        module_below = b.1;
        depth_below = omega (arith, b.2);
        waits_below = waits-more g M records walks depth i root m h l u s.root_below s.module_below s.waits_below;
        on = rw less (waiting-more g M records walks depth i root m h l u _
            ∙ ap (λ (o : Ordering). waiting g M records walks depth (take_from g (M - 1 - depth) root m i o)) (walk_from g M cap from.0 t.0 (M - 1 - depth) visited visited' nodes' n outs' succs' b.3 f b.2)
            ∙ ap (waiting g M records walks depth) (sym (w.upto_is i from t n q)) ∙ s.on);
      }

  -- the present walk has ended, so that those that wait are the whole walk
  ended : (n : ℕ) → r ≡ All n → waiting g M records walks depth (ordering_in M cap visited nodes' n outs' succs') ≡ whole
  ended n q = ap (waiting g M records walks depth) (sym (w.all_is n q)) ∙ s.on

  -- where some wait, the last of them goes on
  pub stacked_out : (n : ℕ) → r ≡ All n → (depth ≡ 0 → ⊥)
      → Stacked g M cap whole records walks visited nodes' outs' succs' edges' (get_or walks (depth - 1) 0 % 1024) (get_or walks (depth - 1) 0 / 1024) (get_or records (depth - 1) 0) n (depth - 1)
  unfolding waiting
  stacked_out n q z =
      let e : depth ≡ suc (depth - 1) = omega arith in
      record {
        stored = w.all_stored n q;
        root_below = (s.waits_below (depth - 1) (omega arith)).0;
        module_below = (s.waits_below (depth - 1) (omega arith)).1;
        depth_below = omega (arith, s.depth_below);
        waits_below = λ x h. s.waits_below x (omega arith);
        on = rw e at (ended n q);
      }

  -- where none waits, the rows hold the whole walk
  pub stacked_done : (n : ℕ) → r ≡ All n → depth ≡ 0 → {o : Ordering} → whole ≡ o → Holds M cap o visited nodes' outs' succs' edges' (Nodes n)
  unfolding waiting
  stacked_done n q e p =
      record {
        stored = λ x y. let z : n ≡ x = cc in rw (sym z) (w.all_stored n q);
        is = λ x y. let z : n ≡ x = cc in rw (sym z) ((rw e at (ended n q)) ∙ p);
        too_many = λ y. clash (cc);
      }

-- there is no room for an edge
pub holds_full : {M cap : ℕ} {s : Ordering} {v nodes outs succs edges : List ℕ} → cap < M → Holds M cap s v nodes outs succs edges Full
holds_full h = record { stored = λ k q. clash (cc); is = λ k q. clash (cc); too_many = λ q. h }
