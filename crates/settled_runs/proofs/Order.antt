-- With the option the facts and live modules of a run do not depend on the order of the entries, as long as the same modules are on cycles: a choice that is
-- settled for the one order is settled for the other, and no order is named in what the smallest one is.
use Prim.Native.Nat.{ℕ, ◌<◌}
use mathlib.Core.Path.{◌≡◌, refl, ap, ◌∙◌, sym, subst}
use mathlib.Core.Logic.{◌↔◌}
use mathlib.Core.Bool.{Bool, true, not, ◌||◌}
use mathlib.Core.List.{List, []}
use native.Mathlib.Omega.{arith}
use lib.Dec.{eqb}
use lib.ListN.{length, get_or}
use Rattle.determine_side_effects.specs.rows_crate.Walk.{Item, no_item}
use Rattle.determine_side_effects.proofs.rows_crate.Items.{many-length}
use Rattle.determine_side_effects.specs.graph_format_crate.Format.{entries_at}
use Rattle.determine_side_effects.specs.graph_tables_crate.Tables.{entries_read}
use Rattle.determine_side_effects.specs.graph_crate.Check.{Graph, graph_in}
use Rattle.determine_side_effects.specs.graph_crate.Loaded.{Loaded}
use Rattle.determine_side_effects.specs.graph_access_crate.Names.{entry_module, entry_kind, related}
use Rattle.determine_side_effects.specs.graph_access_crate.Words.{module_of, symbol_of, entry_of, option}
use Rattle.determine_side_effects.specs.facts_crate.declared.Fact.{Fact}
use Rattle.determine_side_effects.specs.facts_crate.Facts.{bailout_fact}
use Rattle.determine_side_effects.specs.Effects.{last_verdicts}
use Rattle.keep_rules.specs.Rules.{Given}
use Rattle.entry_order.specs.Order.{module_of_entry, is_dynamic, is_user_defined}
use Rattle.entry_starts.specs.Starts.{user_starts}
use Rattle.cycles.proofs.Members.{same_test}
use Rattle.dynamic_entries.specs.Sorted.{on_cycle}
use Rattle.dynamic_entries.specs.Alive.{record_of, is_pure, uses_no_export}
use Rattle.dynamic_entries.specs.Tries.{Progress}
use Rattle.passes.specs.Bailouts.{bailout_starts}
use Rattle.tree_shaking.specs.Rounds.{main_part}
use Rattle.closed_choices.specs.Choice.{Choice, nothing_given, Closed, HoldsStarts, HasLine}
use Rattle.settled_runs.specs.Choice.{LiveAgainst, Settled}
use Rattle.settled_runs.specs.Order.{with_entries, SameButOrder, SameCycles}
use Rattle.settled_runs.proofs.SameGraph.{verdicts_same, module_starts_same, user_starts_same, gives_same}
use Rattle.settled_runs.proofs.Smallest.{main_smallest}

-- there are as many entries as the header says
pub entries_long : {numbers tables : List ℕ} → Loaded numbers tables → length (graph_in numbers).entries ≡ (graph_in numbers).header.entries
unfolding graph_in entries_read entries_at
entries_long t = many-length _ _ _ _ _ t.of_entries.read

-- a choice that is settled for a graph is so for one with the same entries in another order
module _ (g : Graph) (es : List Item) (long : length g.entries ≡ g.header.entries) (others-long : length es ≡ g.header.entries)
    (forth : (e : ℕ) → e < length g.entries → (d : ℕ) × (d < length es) × (get_or es d no_item ≡ get_or g.entries e no_item))
    (back : (d : ℕ) → d < length es → (e : ℕ) × (e < length g.entries) × (get_or g.entries e no_item ≡ get_or es d no_item))
    (cycles : (e : ℕ) → e < length g.entries → is_dynamic g e ≡ true → on_cycle g (module_of_entry g e) ≡ on_cycle (with_entries g es) (module_of_entry g e)) where
  abbrev h : Graph
  h = with_entries g es

  -- an entry of the other graph
  record Found (d : ℕ) : Type 0 where
    here : ℕ
    inside : here < g.header.entries
    item : entry_of g here ≡ entry_of h d
    same_module : module_of_entry h d ≡ module_of_entry g here
    same_kind : is_dynamic h d ≡ is_dynamic g here
    same-user : is_user_defined h d ≡ is_user_defined g here

  found : (d : ℕ) → d < g.header.entries → Found d
  unfolding entry_of module_of_entry is_dynamic is_user_defined
  found d u =
      let b = back d (omega (arith, u, others-long)) in
      let i : get_or es d no_item ≡ get_or g.entries b.0 no_item = sym b.2 in
      let k : is_dynamic h d ≡ is_dynamic g b.0 = ap (λ (x : Item). eqb' (entry_kind x)) i in
      record {
        here = b.0;
        inside = omega (arith, b.1, long);
        item = b.2;
        same_module = ap (λ (x : Item). entry_module x) i;
        same_kind = k;
        same-user = ap not k;
      }
    where
      eqb' : ℕ → Bool
      eqb' x = eqb x 2

  closed_there : (C : Choice) → Closed g C → Closed h C
  unfolding symbol_of
  closed_there C c =
      record {
        by_K1 = c.by_K1;
        by_K2_to_K14 = λ f k a u. subst (λ (l : List Given). k < length l → C (get_or l k nothing_given).fact) (sym (gives_same g es forth back f)) (λ w. c.by_K2_to_K14 f k a w) u;
      }

  pure_same : (row : List ℕ) → is_pure h (last_verdicts h) row ≡ is_pure g (last_verdicts g) row
  unfolding is_pure record_of module_of
  pure_same row = ap (λ (v : List ℕ). is_pure g v row) (verdicts_same g es forth back)

  uses_same : (m : ℕ) → uses_no_export h m ≡ uses_no_export g m
  unfolding uses_no_export module_of
  uses_same m = refl

  live_there : (C : Choice) (m : ℕ) (row : List ℕ) → LiveAgainst h C m row → LiveAgainst g C m row
  live_there C m row l =
      record {
        reachable = l.reachable;
        chosen = l.chosen;
        stays = ap (λ (b : Bool). not (uses_no_export g m) || not b) (sym (pure_same row)) ∙ ap (λ (b : Bool). not b || not (is_pure h (last_verdicts h) row)) (sym (uses_same m)) ∙ l.stays;
      }

  bailout_same : (m : ℕ) → bailout_starts h (bailout_fact m) ≡ bailout_starts g (bailout_fact m)
  unfolding bailout_starts module_of
  bailout_same m = refl

  pub settled_there : (C : Choice) (A : ℕ → Type 0) → Settled g C A → Settled (with_entries g es) C A
  settled_there C A s =
      record {
        users = λ d u k. let f = found d u in
            subst (λ (m : ℕ). HoldsStarts (user_starts h m) C) (sym f.same_module)
            (subst (λ (l : List Fact). HoldsStarts l C) (sym (user_starts_same g es forth back (module_of_entry g f.here))) (s.users f.here f.inside (sym f.same-user ∙ k)));
        closed = closed_there C s.closed;
        bailouts = λ m a. subst (λ (l : List Fact). HoldsStarts l C) (sym (bailout_same m)) (s.bailouts m a);
        on_cycles = λ d u k c. let f = found d u in
            let e = sym f.same_kind ∙ k in
            subst (λ (m : ℕ). A m) (sym f.same_module)
            (s.on_cycles f.here f.inside e (cycles f.here (omega (arith, f.inside, long)) e ∙ subst (λ (m : ℕ). on_cycle h m ≡ true) f.same_module c));
        related_live = λ d k u q w l. let f = found d u in
            subst (λ (m : ℕ). A m) (sym f.same_module)
            (s.related_live f.here k f.inside (sym f.same_kind ∙ q) (subst (λ (x : Item). k < length (related x)) (sym f.item) w)
            (subst (λ (m : ℕ). LiveAgainst g C m (get_or (related (entry_of g f.here)) k [])) f.same_module
            (subst (λ (x : Item). LiveAgainst g C (module_of_entry h d) (get_or (related x) k [])) (sym f.item) (live_there C (module_of_entry h d) (get_or (related (entry_of h d)) k []) l))));
        live_starts = λ m a. subst (λ (l : List Fact). HoldsStarts l C) (sym (module_starts_same g es forth back m)) (s.live_starts m a);
      }

-- The same with entries as sets, which is all that is needed: each entry of one is an entry of the other.
record Reordered (g h : Graph) : Type 0 where
  rest_is : h ≡ with_entries g h.entries
  forth : (e : ℕ) → e < length g.entries → (d : ℕ) × (d < length h.entries) × (entry_of h d ≡ entry_of g e)
  back : (d : ℕ) → d < length h.entries → (e : ℕ) × (e < length g.entries) × (entry_of g e ≡ entry_of h d)
  cycles : (e : ℕ) → e < length g.entries → is_dynamic g e ≡ true → on_cycle g (module_of_entry g e) ≡ on_cycle h (module_of_entry g e)

reordered : (g h : Graph) → length g.entries ≡ g.header.entries → length h.entries ≡ h.header.entries → SameButOrder g h → SameCycles g h → Reordered g h
reordered g h a b r c =
    let heads = ap (λ (x : Graph). x.header.entries) r.rest_is in
    record {
      rest_is = r.rest_is;
      forth = λ e u. (r.there e, omega (arith, r.there_inside e (omega (arith, u, a)), b, heads), r.entries_are e (omega (arith, u, a)));
      back = λ d u. let v : d < g.header.entries = omega (arith, u, b, heads) in
          (r.here d, omega (arith, r.here_inside d v, a), sym (r.entries_are (r.here d) (r.here_inside d v)) ∙ ap (λ (x : ℕ). entry_of h x) (r.there_here d v));
      cycles = λ e u k. c e (omega (arith, u, a)) k;
    }

-- the other way round
its_module : (g h : Graph) (e d : ℕ) → entry_of g e ≡ entry_of h d → module_of_entry g e ≡ module_of_entry h d
unfolding module_of_entry
its_module g h e d q = ap (λ (x : Item). entry_module x) q

its_kind : (g h : Graph) (e d : ℕ) → entry_of g e ≡ entry_of h d → is_dynamic g e ≡ is_dynamic h d
unfolding is_dynamic
its_kind g h e d q = ap (λ (x : Item). eqb (entry_kind x) 2) q

turned : (g h : Graph) → Reordered g h → Reordered h g
turned g h r =
    record {
      rest_is = sym (ap (λ (x : Graph). with_entries x g.entries) r.rest_is);
      forth = r.back;
      back = r.forth;
      cycles = λ d u k.
          let b = r.back d u in
          let m = its_module g h b.0 d b.2 in
          subst (λ (x : ℕ). on_cycle h x ≡ on_cycle g x) m (sym (r.cycles b.0 b.1 (its_kind g h b.0 d b.2 ∙ k)));
    }

settled_moves : (g h : Graph) → Reordered g h → length g.entries ≡ g.header.entries → length h.entries ≡ h.header.entries → (C : Choice) (A : ℕ → Type 0) → Settled g C A → Settled h C A
unfolding entry_of
settled_moves g h r a b C A s =
    let heads = ap (λ (x : Graph). x.header.entries) r.rest_is in
    subst (λ (x : Graph). Settled x C A) (sym r.rest_is)
    (settled_there g h.entries a (b ∙ heads) r.forth r.back
    (λ e u k. r.cycles e u k ∙ ap (λ (x : Graph). on_cycle x (module_of_entry g e)) r.rest_is) C A s)

module _ {numbers tables others places : List ℕ} (t : Loaded numbers tables) (u : Loaded others places) where
  abbrev g : Graph
  g = graph_in numbers

  abbrev k : Graph
  k = graph_in others

  abbrev p : Progress
  p = (main_part (graph_in numbers) (last_verdicts (graph_in numbers))).end

  abbrev q : Progress
  q = (main_part (graph_in others) (last_verdicts (graph_in others))).end

  module _ (on : option g 7 ≡ true) (r : SameButOrder g k) (c : SameCycles g k) where
    same : Reordered g k
    same = reordered g k (entries_long t) (entries_long u) r c

    on-too : option k 7 ≡ true
    unfolding option
    on-too = ap (λ (x : Graph). option x 7) r.rest_is ∙ on

    there : Settled k (HasLine p.lines) (λ m. p.live m ≡ true)
    there = settled_moves g k same (entries_long t) (entries_long u) (HasLine p.lines) (λ m. p.live m ≡ true) (main_smallest t on).settled

    here : Settled g (HasLine q.lines) (λ m. q.live m ≡ true)
    here = settled_moves k g (turned g k same) (entries_long u) (entries_long t) (HasLine q.lines) (λ m. q.live m ≡ true) (main_smallest u on-too).settled

    pub facts-same : (f : Fact) → HasLine (main_part (graph_in numbers) (last_verdicts (graph_in numbers))).end.lines f ↔ HasLine (main_part (graph_in others) (last_verdicts (graph_in others))).end.lines f
    facts-same f = (
      (main_smallest t on).facts_inside (HasLine q.lines) (λ m. q.live m ≡ true) here f,
      (main_smallest u on-too).facts_inside (HasLine p.lines) (λ m. p.live m ≡ true) there f,
    )

    pub live_same : (m : ℕ) → (main_part (graph_in numbers) (last_verdicts (graph_in numbers))).end.live m ≡ (main_part (graph_in others) (last_verdicts (graph_in others))).end.live m
    live_same m =
        same_test (p.live m) (q.live m) ((main_smallest t on).live_inside (HasLine q.lines) (λ x. q.live x ≡ true) here m)
        ((main_smallest u on-too).live_inside (HasLine p.lines) (λ x. p.live x ≡ true) there m)
