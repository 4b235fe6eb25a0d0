-- One component: what a walk over reversed edges newly enters, from the node that was completed last of those that are left.
use Prim.Native.Nat.{ℕ, ◌<◌}
use mathlib.Core.Logic.{◌⊎◌, ⊎_elim}
use mathlib.Core.Bool.{Bool}
use mathlib.Core.List.{List, [], ◌∷◌}
use native.Mathlib.Nat.{le_refl}
use Rattle.keep_record.specs.Held.{Distinct}
use Rattle.cycles.specs.Search.{Search, walk}
use Rattle.cycles.specs.Cycles.{Edge, Reaches}
use Rattle.cycles.specs.Cycles.Reaches.{here, along}
use Rattle.cycles.proofs.Members.{In, Has, Lacks, never_both, in_none, in_head, in_single}
use Rattle.cycles.proofs.Paths.{Among, joined, mapped, handed}
use Rattle.cycles.proofs.Walks.{Walks, walk_is}
use Rattle.cycles.proofs.Ranks.{Went, went, Ranked, Sound, sound, sound_start}

-- what is reached from a member by an edge of p is a member
abbrev pub Closed : (ℕ → List ℕ) → (ℕ → Bool) → Type 0
Closed p seen = (x y : ℕ) → Has seen x → Edge p x y → Has seen y

-- every node was seen, or is still to come
abbrev pub Covers : (ℕ → Type 0) → List ℕ → (ℕ → Bool) → Type 0
Covers Node rs seen = (x : ℕ) → Node x → Has seen x ⊎ In rs x

-- the members of the component of r: those that are newly seen
pub record Group (g p : ℕ → List ℕ) (Node : ℕ → Type 0) (r : ℕ) (seen : ℕ → Bool) : Type 0 where
  pub after : ℕ → Bool
  pub members : List ℕ
  pub kept : (x : ℕ) → Has seen x → Has after x
  pub seen_now : (x : ℕ) → In members x → Has after x
  pub new : (x : ℕ) → In members x → Lacks seen x
  pub no_others : (x : ℕ) → Has after x → Has seen x ⊎ In members x
  pub root : In members r
  pub nodes : (x : ℕ) → In members x → Node x
  pub apart : Distinct members
  pub to_root : (x : ℕ) → In members x → Reaches (Edge g) x r
  pub from_root : (x : ℕ) → In members x → Reaches (Edge g) r x
  pub closed : Closed p seen → Closed p after

-- g's edges are between nodes, which are below n; p has them the other way round
module _ (g p : ℕ → List ℕ) (n : ℕ) (Node : ℕ → Type 0) (below : (x : ℕ) → Node x → x < n) (ends : (u v : ℕ) → Edge g u v → Node u × Node v)
    (forth : (u v : ℕ) → Edge p v u → Edge g u v) where
  pub group : (r : ℕ) (rs : List ℕ) (seen : ℕ → Bool) → Node r → Lacks seen r → Covers Node (r ∷ rs) seen → Ranked g (r ∷ rs) → Group g p Node r seen
  group r rs seen node o c k =
      record {
        after = z.seen;
        members = z.done;
        kept = moved.seen_kept;
        seen_now = good.inside;
        new = λ x i. ⊎_elim (λ j. absurd (in_none x j)) (λ w. w.unseen) (moved.only x i);
        no_others = moved.completes;
        root = ⊎_elim (λ i. absurd (never_both i o)) (λ i. i) (moved.completes r (moved.enters r (in_head r [])));
        nodes = λ x i. handed Node (λ a b e q. (ends b a (forth b a e.1.1)).0) (back-path x i) node;
        apart = good.apart;
        to_root = λ x i. mapped (λ a b e. e.1.1) (turned node (back-path x i));
        from_root = λ x i. k.0 x (turned node (back-path x i));
        closed = λ h x y i e. ⊎_elim (λ j. moved.seen_kept y (h x y j e)) (λ j. good.closed x y j e) (moved.completes x i);
      }
    where
      begun : Search
      begun = record { seen = seen; done = [] }

      z : Search
      z = walk p n r begun

      walked : Walks p (r ∷ []) begun z
      walked = walk_is p n (λ u v l e. below v (ends v u (forth v u e)).0) n r begun (below r node) (le_refl n)

      moved : Went p (r ∷ []) begun z
      moved = went p walked

      good : Sound p z
      good = sound p walked (sound_start p seen)

      back-path : (x : ℕ) → In z.done x → Reaches (Among (Lacks seen) (Edge p)) r x
      back-path x i = ⊎_elim (λ j. absurd (in_none x j)) (λ w. rw (in_single w.root r w.listed) at w.path) (moved.only x i)

      to-come : (x : ℕ) → Node x → Lacks seen x → In (r ∷ rs) x
      to-come x l q = ⊎_elim (λ i. absurd (never_both i q)) (λ i. i) (c x l)

      turned : {u v : ℕ} → Node u → Reaches (Among (Lacks seen) (Edge p)) u v → Reaches (Among (In (r ∷ rs)) (Edge g)) v u
      turned l (here u) = here u
      turned l (along u w v e q) =
          let f = forth w u e.1.1 in
          let m = (ends w u f).0 in
          joined (turned m q) (along w u u (to-come w m e.1.0, (to-come u l e.0, f)) (here u))
