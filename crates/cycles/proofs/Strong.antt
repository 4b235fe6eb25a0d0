-- The groups of more than one are the strongly connected components of more than one.
-- `cycled_cycles` and `cycles_cycled`: T12, for every graph whose edges join its roots. Each root is completed once.
use Prim.Native.Nat.{ℕ, ◌<◌, ◌≤◌}
use mathlib.Core.Path.{◌≡◌, refl, ap, ◌∙◌, sym, subst}
use mathlib.Core.Logic.{◌⊎◌, inl, inr, ⊎_elim}
use mathlib.Core.Bool.{Bool, true, false}
use mathlib.Core.List.{List, [], ◌∷◌}
use native.Mathlib.Omega.{arith}
use native.Mathlib.Nat.{le_refl}
use borrow.Author.Tests.{eqb-true, eqb-false, ltb-true, lt-ltb}
use lib.Dec.{eqb, ltb}
use lib.ListN.{length}
use Rattle.keep_record.specs.Lines.{elem}
use Rattle.keep_record.specs.Held.{Distinct}
use Rattle.cycles.specs.Search.{Search, none, nowhere, each, walk, finished}
use Rattle.cycles.specs.Cycles.{Edge, Reaches, OnCycle, preds, several, groups, cycled}
use Rattle.cycles.specs.Cycles.Reaches.{here, along}
use Rattle.cycles.proofs.Members.{In, Has, Lacks, never_both, either, same_test, in_none, in_head, in_tail, in_cases, in_single, in_left, in_right, in_either, none_lacks}
use Rattle.cycles.proofs.Paths.{Among, joined, mapped, handed, edge_back, edge_forth}
use Rattle.cycles.proofs.Walks.{Walks, walk_is, each_is, each_fuel_never}
use Rattle.cycles.proofs.Ranks.{Went, went, Ranked, Sound, sound, sound_start}

-- ---- more than one

several_in : (xs : List ℕ) (x : ℕ) → In (several xs) x → (1 < length xs) × In xs x
unfolding several
several_in xs x i = go (ltb 1 (length xs)) refl
  where
    go : (b : Bool) → ltb 1 (length xs) ≡ b → (1 < length xs) × In xs x
    go true e = (ltb-true _ _ e, rw (e, several) at i)
    go false e = absurd (in_none x (rw (e, several) at i))

in_several : (xs : List ℕ) (x : ℕ) → 1 < length xs → In xs x → In (several xs) x
unfolding several
in_several xs x h i = rw (lt-ltb 1 (length xs) h, several) i

two_members : (xs : List ℕ) (x y : ℕ) → (y ≡ x → ⊥) → In xs x → In xs y → 1 < length xs
two_members [] x y d i j = absurd (in_none x i)
two_members (a ∷ []) x y d i j = absurd (d (in_single y a j ∙ sym (in_single x a i)))
two_members (a ∷ b ∷ xs) x y d i j = omega arith

record Another (xs : List ℕ) (x : ℕ) : Type 0 where
  is : ℕ
  listed : In xs is
  differs : is ≡ x → ⊥

another : (xs : List ℕ) (x : ℕ) → Distinct xs → 1 < length xs → Another xs x
another [] x d h = absurd (omega arith)
another (a ∷ []) x d h = absurd (omega arith)
another (a ∷ b ∷ xs) x d h = go (eqb a x) refl
  where
    go : (c : Bool) → eqb a x ≡ c → Another (a ∷ b ∷ xs) x
    go true e =
        record {
          is = b;
          listed = in_tail b a (b ∷ xs) (in_head b xs);
          differs = λ q. let r : b ≡ a = q ∙ sym (eqb-true a x e) in never_both (subst (λ (y : ℕ). In (b ∷ xs) y) r (in_head b xs)) d.0;
        }
    go false e = record { is = a; listed = in_head a (b ∷ xs); differs = eqb-false a x e }

-- ---- g's edges are between nodes, which are below n; p has them the other way round, in any order

module _ (g p : ℕ → List ℕ) (n : ℕ) (Node : ℕ → Type 0) (below : (x : ℕ) → Node x → x < n) (ends : (u v : ℕ) → Edge g u v → Node u × Node v)
    (back : (u v : ℕ) → Edge g u v → Edge p v u) (forth : (u v : ℕ) → Edge p v u → Edge g u v) where
  begun : (ℕ → Bool) → Search
  begun seen = record { seen = seen; done = [] }

  after : ℕ → (ℕ → Bool) → Search
  after r seen = walk p n r (begun seen)

  module _ (r : ℕ) (node : Node r) (seen : ℕ → Bool) where
    walked : Walks p (r ∷ []) (begun seen) (after r seen)
    unfolding after begun
    walked = walk_is p n (λ u v l e. below v (ends v u (forth v u e)).0) n r (begun seen) (below r node) (le_refl n)

    moved : Went p (r ∷ []) (begun seen) (after r seen)
    moved = went p walked

    good : Sound p (after r seen)
    unfolding begun
    good = sound p walked (sound_start p seen)

    -- a group's root leads to its members, by reversed edges over unseen nodes
    from-root-back : (v : ℕ) → In (after r seen).done v → Reaches (Among (Lacks seen) (Edge p)) r v
    unfolding begun
    from-root-back v i = ⊎_elim (λ j. absurd (in_none v j)) (λ w. rw (in_single w.root r w.listed) at w.path) (moved.only v i)

  -- every node was seen, or is still to come as a root
  abbrev Covers : List ℕ → (ℕ → Bool) → Type 0
  Covers rs seen = (x : ℕ) → Node x → Has seen x ⊎ In rs x

  covers_next : (r : ℕ) (rs : List ℕ) (seen : ℕ → Bool) → Node r → Covers (r ∷ rs) seen → Covers rs (after r seen).seen
  unfolding begun
  covers_next r rs seen h c x l =
      ⊎_elim (λ i. inl ((moved r h seen).seen_kept x i))
      (λ i. ⊎_elim (λ e. inl (rw e ((moved r h seen).enters r (in_head r [])))) (λ j. inr j) (in_cases x r rs i)) (c x l)

  -- ---- members of a group reach each other

  module _ (r : ℕ) (h : Node r) (rs : List ℕ) (seen : ℕ → Bool) (c : Covers (r ∷ rs) seen) (k : Ranked g (r ∷ rs)) where
    to-come : (x : ℕ) → Node x → Lacks seen x → In (r ∷ rs) x
    to-come x l o = ⊎_elim (λ i. absurd (never_both i o)) (λ i. i) (c x l)

    turned : {u v : ℕ} → Node u → Reaches (Among (Lacks seen) (Edge p)) u v → Reaches (Among (In (r ∷ rs)) (Edge g)) v u
    turned l (here u) = here u
    turned l (along u w v e q) =
        let f = forth w u e.1.1 in
        let m = (ends w u f).0 in
        joined (turned m q) (along w u u (to-come w m e.1.0, (to-come u l e.0, f)) (here u))

    to_root : (v : ℕ) → In (after r seen).done v → Reaches (Edge g) v r
    to_root v i = mapped (λ x y e. e.1.1) (turned h (from-root-back r h seen v i))

    from_root : (v : ℕ) → In (after r seen).done v → Reaches (Edge g) r v
    from_root v i = k.0 v (turned h (from-root-back r h seen v i))

    group-cycles : (m : ℕ) → In (several (after r seen).done) m → OnCycle g m
    group-cycles m i =
        let s = several_in (after r seen).done m i in
        let a = another (after r seen).done m (good r h seen).apart s.0 in
        record {
          other = a.is;
          differs = a.differs;
          to = joined (to_root m s.1) (from_root a.is a.listed);
          back = joined (to_root a.is a.listed) (from_root m s.1);
        }

  pub groups_cycles : (rs : List ℕ) (seen : ℕ → Bool) → ((x : ℕ) → In rs x → Node x) → Covers rs seen → Ranked g rs → (m : ℕ) → In (groups p n rs seen) m → OnCycle g m
  unfolding groups after begun
  groups_cycles [] seen b c k m i = absurd (in_none m i)
  groups_cycles (r ∷ rs) seen b c k m i =
      let h = b r (in_head r rs) in
      ⊎_elim (λ j. group-cycles r h rs seen c k m j)
      (λ j. groups_cycles rs (after r seen).seen (λ x t. b x (in_tail x r rs t)) (covers_next r rs seen h c) k.1 m j)
      (in_either m (several (after r seen).done) (groups p n rs (after r seen).seen) i)

  -- ---- nodes that reach each other are in one group

  abbrev Closed : (ℕ → Bool) → Type 0
  Closed seen = (x y : ℕ) → Has seen x → Edge p x y → Has seen y

  closed_back : (seen : ℕ → Bool) → Closed seen → {u v : ℕ} → Reaches (Edge g) u v → Has seen v → Has seen u
  closed_back seen c (here u) i = i
  closed_back seen c (along u w v e q) i = c w u (closed_back seen c q i) (back u w e)

  closed_next : (r : ℕ) (h : Node r) (seen : ℕ → Bool) → Closed seen → Closed (after r seen).seen
  unfolding begun
  closed_next r h seen c x y i e =
      ⊎_elim (λ j. (moved r h seen).seen_kept y (c x y j e)) (λ j. (good r h seen).closed x y j e) ((moved r h seen).completes x i)

  module _ (m k : ℕ) (node : Node m) (d : k ≡ m → ⊥) (to : Reaches (Edge g) m k) (fro : Reaches (Edge g) k m) where
    in_group : (r : ℕ) (h : Node r) (seen : ℕ → Bool) → Closed seen → Lacks seen m → Has (after r seen).seen m → In (several (after r seen).done) m
    unfolding begun
    in_group r h seen c o i =
        let a = moved r h seen in
        let mine : In (after r seen).done m = ⊎_elim (λ j. absurd (never_both j o)) (λ j. j) (a.completes m i) in
        let other : Has (after r seen).seen k = closed_back (after r seen).seen (closed_next r h seen c) fro i in
        let its : In (after r seen).done k = ⊎_elim (λ j. absurd (never_both (closed_back seen c to j) o)) (λ j. j) (a.completes k other) in
        in_several (after r seen).done m (two_members (after r seen).done m k d mine its) mine

    pub cycles-groups : (rs : List ℕ) (seen : ℕ → Bool) → ((x : ℕ) → In rs x → Node x) → Covers rs seen → Closed seen → Lacks seen m → In (groups p n rs seen) m
    unfolding groups after begun
    cycles-groups [] seen b c s o = absurd (⊎_elim (λ i. never_both i o) (λ i. in_none m i) (c m node))
    cycles-groups (r ∷ rs) seen b c s o =
        let h = b r (in_head r rs) in
        let rest = groups p n rs (after r seen).seen in
        ⊎_elim (λ i. in_left m (several (after r seen).done) rest (in_group r h seen s o i))
        (λ q. in_right m (several (after r seen).done) rest (cycles-groups rs (after r seen).seen (λ x t. b x (in_tail x r rs t)) (covers_next r rs seen h c) (closed_next r h seen s) q))
        (either ((after r seen).seen m))

-- ---- the theorem: roots below n, and all edges between roots

module _ (g : ℕ → List ℕ) (n : ℕ) (roots : List ℕ) (below : (x : ℕ) → elem x roots ≡ true → x < n)
    (ends : (u v : ℕ) → Edge g u v → (elem u roots ≡ true) × (elem v roots ≡ true)) where
  last : ℕ → Search
  last fuel = each (λ u q. walk g fuel u q) roots nowhere

  all_walked : Walks g roots nowhere (last n)
  unfolding last
  all_walked = each_is g n (λ u v l e. below v (ends u v e).1) n roots nowhere below (le_refl n)

  in_finished : (x : ℕ) → In roots x → In (finished g n roots) x
  unfolding last finished
  in_finished x i = let a = went g all_walked in ⊎_elim (λ j. absurd (never_both j (none_lacks x))) (λ j. j) (a.completes x (a.enters x i))

  finished_in : (x : ℕ) → In (finished g n roots) x → In roots x
  unfolding last finished
  finished_in x i =
      ⊎_elim (λ j. absurd (in_none x j)) (λ w. handed (λ y. In roots y) (λ u v e l. (ends u v e.1.1).1) w.path w.listed) ((went g all_walked).only x i)

  pub finished_roots : (m : ℕ) → elem m (finished g n roots) ≡ elem m roots
  finished_roots m = same_test (elem m (finished g n roots)) (elem m roots) (finished_in m) (in_finished m)

  pub finished_distinct : Distinct (finished g n roots)
  unfolding last finished
  finished_distinct = (sound g all_walked (sound_start g none)).apart

  finished_ranked : Ranked g (finished g n roots)
  unfolding last finished
  finished_ranked = (sound g all_walked (sound_start g none)).ranked

  -- more fuel than nodes changes nothing
  pub finished_fuel : (a : ℕ) → n ≤ a → finished g a roots ≡ finished g n roots
  unfolding last finished
  finished_fuel a h = ap (λ (s : Search). s.done) (each_fuel_never g n (λ u v l e. below v (ends u v e).1) a n roots nowhere below h (le_refl n))

  back : (u v : ℕ) → Edge g u v → Edge (preds g n) v u
  back u v e = edge_back g n u v (below u (ends u v e).0) e

  -- a node that the groups have is strongly connected with another
  pub cycled_cycles : (m : ℕ) → elem m (cycled g n roots) ≡ true → OnCycle g m
  unfolding cycled
  cycled_cycles m i =
      groups_cycles g (preds g n) n (λ x. In roots x) below ends back (edge_forth g n) (finished g n roots) none finished_in (λ x j. inr (in_finished x j)) finished_ranked m i

  on_root : (m : ℕ) (k : ℕ) → (k ≡ m → ⊥) → Reaches (Edge g) m k → In roots m
  on_root m k d (here _) = absurd (d refl)
  on_root m k d (along _ v _ e p) = (ends m v e).0

  -- and each such node is in them
  pub cycles_cycled : (m : ℕ) → OnCycle g m → elem m (cycled g n roots) ≡ true
  unfolding cycled
  cycles_cycled m c =
      let node = on_root m c.other c.differs c.to in
      cycles-groups g (preds g n) n (λ x. In roots x) below ends back (edge_forth g n) m c.other node c.differs c.to c.back (finished g n roots) none finished_in
      (λ x j. inr (in_finished x j)) (λ x y i e. absurd (never_both i (none_lacks x))) (none_lacks m)
