-- Every line of a drain is one of its starts, or follows from earlier lines that it names.
use Prim.Native.Nat.{ℕ, zero, suc, ◌+◌, ◌<◌, ◌≤◌}
use mathlib.Core.Path.{◌≡◌, refl, ap, ◌∙◌, sym, subst}
use mathlib.Core.Bool.{Bool, true, false}
use mathlib.Core.List.{List, [], ◌∷◌, ◌++◌}
use native.Mathlib.Decide.{dec_lt}
use native.Mathlib.Omega.{arith}
use borrow.Author.Tests.{eqb-false, ltb-true, lt-leb}
use lib.Dec.{eqb, ltb}
use lib.ListN.{length, get_or, take, length-append, get_or-append}
use lib.Seq.{get_or-append_seam, get_or-take, length-take-le}
use Rattle.determine_side_effects.specs.graph_crate.Check.{Graph}
use Rattle.determine_side_effects.specs.graph_access_crate.Names.{owner, declaring_statements, only}
use Rattle.determine_side_effects.specs.graph_access_crate.Words.{symbol_of}
use Rattle.determine_side_effects.specs.facts_crate.declared.Fact.{Fact}
use Rattle.determine_side_effects.specs.facts_crate.declared.Fact.TheVariants.{Module, Statement, Use, CheckedUse, Forward, Bailout}
use Rattle.determine_side_effects.specs.facts_crate.Facts.{module_fact, statement_fact, forward_fact, first_part, mark_count}
use Rattle.keep_rules.specs.Rules.{gives}
use Rattle.keep_record.specs.declared.Line.{Line}
use Rattle.keep_record.specs.Lines.{has, added, adds}
use Rattle.worklist.specs.Drain.{line, fact_at, followed, joined, is_forward_of, is_the_module, forwards_to, is_module, joins_all, module_line, name_of, joined_to, joins, news, drained, started, drained_all, drain_of}
use Rattle.rule_relation.specs.Relation.{Gives, Joins, K1}
use Rattle.rule_relation.specs.Relation.{K2_effect, K2_eval, K2_unforced, K2_forced, K3_effects, K3_whole, K4, K5, K6, K7, K8_forward, K8_use, K8_depended, K8_target, K8_member, K9_use, K9_namespace, K9_own, K9_default, K10, K11, K12_use, K12_forward, K13_statement, K13_module, K14}
use Rattle.rule_relation.specs.Same.{given, Listed}
use Rattle.closed_choices.proofs.Every.{Every, every_append, every_at, every_by, every_map, every_tabulate}
use Rattle.closed_choices.proofs.Handling.{no_line, fact_front}
use Rattle.closed_choices.proofs.Reaching.{forward_there, module_there}

-- the rules of the relation
pub rule_known : {g : Graph} {v : List ℕ} {r : ℕ} {f e : Fact} → Gives g v r f e → (2 ≤ r) × (r ≤ 14)
rule_known (K2_effect m i s h b e w) = (omega arith, omega arith)
rule_known (K2_eval m i s h b e f) = (omega arith, omega arith)
rule_known (K2_unforced m i s h b f) = (omega arith, omega arith)
rule_known (K2_forced m i s h b f) = (omega arith, omega arith)
rule_known (K3_effects m k d s l q n e) = (omega arith, omega arith)
rule_known (K3_whole m k d s l q n o) = (omega arith, omega arith)
rule_known (K4 m k s e t l) = (omega arith, omega arith)
rule_known (K5 m k s l) = (omega arith, omega arith)
rule_known (K6 m s o n x) = (omega arith, omega arith)
rule_known (K7 m i k t l b) = (omega arith, omega arith)
rule_known (K8_forward m i k f l p a) = (omega arith, omega arith)
rule_known (K8_use m i k x l p r) = (omega arith, omega arith)
rule_known (K8_depended m i k j l q u) = (omega arith, omega arith)
rule_known (K8_target m i k x l q f r) = (omega arith, omega arith)
rule_known (K8_member m i k x l q f r) = (omega arith, omega arith)
rule_known (K9_use s x) = (omega arith, omega arith)
rule_known (K9_namespace s x n q) = (omega arith, omega arith)
rule_known (K9_own s x o) = (omega arith, omega arith)
rule_known (K9_default s x a n q d c) = (omega arith, omega arith)
rule_known (K10 s x b i h f q l e) = (omega arith, omega arith)
rule_known (K11 s x a n e h q c t d y) = (omega arith, omega arith)
rule_known (K12_use s x w h d) = (omega arith, omega arith)
rule_known (K12_forward s x w f h d a) = (omega arith, omega arith)
rule_known (K13_statement s x k h n l) = (omega arith, omega arith)
rule_known (K13_module s x h n d) = (omega arith, omega arith)
rule_known (K14 s x k h o n l) = (omega arith, omega arith)

-- a fact is one of the starts
pub record Among (starts : List Fact) (f : Fact) : Type 0 where
  pub number : ℕ
  pub inside : number < length starts
  pub is : get_or starts number (module_fact 0) ≡ f

pub all_among : (starts : List Fact) → Every (Among starts) starts
all_among starts = every_by (Among starts) starts (module_fact 0) (λ k u. record { number = k; inside = u; is = refl })

-- a line is one of the starts, or follows, by K1 or by a list of consequences, from lines that are among the first n
module _ (g : Graph) (v : List ℕ) (starts : List Fact) where
  pub data Stands (lines : List Line) (n : ℕ) : Line → Type 0 where
    as_start : (f : Fact) → Among starts f → Stands lines n (line f 0 0 0)
    by-module : (f : Fact) (a b : ℕ) → a < n → b < n → Joins g (fact_at lines a) (fact_at lines b) f → Stands lines n (line f 1 (a + 1) (b + 1))
    by-forward : (f : Fact) (a b : ℕ) → a < n → b < n → Joins g (fact_at lines b) (fact_at lines a) f → Stands lines n (line f 1 (a + 1) (b + 1))
    by_one : (f : Fact) (r a : ℕ) → a < n → Listed r f (gives g v (fact_at lines a)) → Stands lines n (line f r (a + 1) 0)

  -- all lines do
  abbrev pub AllStand : List Line → Type 0
  AllStand lines = (k : ℕ) → k < length lines → Stands lines k (get_or lines k no_line)

  -- further lines change nothing
  stands_more : (lines rest : List Line) (m n : ℕ) (l : Line) → m ≤ n → m ≤ length lines → Stands lines m l → Stands (lines ++ rest) n l
  stands_more lines rest m n l h w (as_start f x) = as_start f x
  stands_more lines rest m n l h w (by-module f a b p q j) =
      by-module f a b (omega arith) (omega arith) (rw (fact_front lines rest a (omega arith), fact_front lines rest b (omega arith)) j)
  stands_more lines rest m n l h w (by-forward f a b p q j) =
      by-forward f a b (omega arith) (omega arith) (rw (fact_front lines rest b (omega arith), fact_front lines rest a (omega arith)) j)
  stands_more lines rest m n l h w (by_one f r a p j) = by_one f r a (omega arith) (rw (fact_front lines rest a (omega arith)) j)

  stand_last : (lines : List Line) (l : Line) → AllStand lines → Stands lines (length lines) l → AllStand (lines ++ (l ∷ []))
  stand_last lines l h s k u = go (dec_lt k (length lines))
    where
      go : Dec (k < length lines) → Stands (lines ++ (l ∷ [])) k (get_or (lines ++ (l ∷ [])) k no_line)
      go (yes w) = rw (get_or-append lines (l ∷ []) no_line k w) (stands_more lines (l ∷ []) k k (get_or lines k no_line) (omega arith) (omega arith) (h k w))
      go (no w) =
          let e : length lines ≡ k = omega (arith, u, length-append lines (l ∷ [])) in
          subst (λ i. Stands (lines ++ (l ∷ [])) i (get_or (lines ++ (l ∷ [])) i no_line)) e
          (rw (get_or-append_seam lines l [] no_line) (stands_more lines (l ∷ []) (length lines) (length lines) l (omega arith) (omega arith) s))

  -- a line is added, where it is new; so are several
  added_stand : (base : ℕ) (lines : List Line) (l : Line) → AllStand lines → Stands lines (length lines) l → AllStand (added g base lines l)
  unfolding added
  added_stand base lines l h s = go (has g base lines l.fact)
    where
      go : (b : Bool) → AllStand (elim b [ true ↦ lines | false ↦ lines ++ (l ∷ []) ])
      go true = h
      go false = stand_last lines l h s

  stand_added : (base : ℕ) (lines ls : List Line) (l : Line) → Every (Stands lines (length lines)) ls → Every (Stands (added g base lines l) (length (added g base lines l))) ls
  unfolding added
  stand_added base lines ls l a = go (has g base lines l.fact)
    where
      more : List Line
      more = lines ++ (l ∷ [])

      go : (b : Bool) → Every (Stands (elim b [ true ↦ lines | false ↦ lines ++ (l ∷ []) ]) (length {A = Line} (elim b [ true ↦ lines | false ↦ lines ++ (l ∷ []) ]))) ls
      go true = a
      go false =
          every_by (Stands more (length more)) ls no_line
          (λ k u. stands_more lines (l ∷ []) (length lines) (length more) (get_or ls k no_line) (omega (arith, length-append lines (l ∷ []))) (omega arith) (every_at (Stands lines (length lines)) ls no_line a k u))

  adds_stand : (base : ℕ) (lines ls : List Line) → AllStand lines → Every (Stands lines (length lines)) ls → AllStand (adds g base lines ls)
  unfolding adds
  adds_stand base lines [] h a = h
  adds_stand base lines (l ∷ ls) h a = adds_stand base (added g base lines l) ls (added_stand base lines l h a.0) (stand_added base lines ls l a.1)

  -- K1
  module _ (lines : List Line) (n : ℕ) where
    at_module : (s a b : ℕ) → a < n → b < n → fact_at lines a ≡ module_fact (owner (symbol_of g s)) → fact_at lines b ≡ forward_fact s → Every (Stands lines n) (joined g s (a + 1) (b + 1))
    unfolding joined
    at_module s a b p q e f =
        every_tabulate (Stands lines n) (λ i. line (statement_fact (owner (symbol_of g s)) (only (get_or (declaring_statements (symbol_of g s)) i []))) 1 (a + 1) (b + 1)) 0 (length (declaring_statements (symbol_of g s)))
        (λ k l u. by-module _ a b p q (rw (e, f) (K1 (owner (symbol_of g s)) s k refl (omega (arith, u)))))

    at_forward : (s a b : ℕ) → a < n → b < n → fact_at lines a ≡ forward_fact s → fact_at lines b ≡ module_fact (owner (symbol_of g s)) → Every (Stands lines n) (joined g s (a + 1) (b + 1))
    unfolding joined
    at_forward s a b p q e f =
        every_tabulate (Stands lines n) (λ i. line (statement_fact (owner (symbol_of g s)) (only (get_or (declaring_statements (symbol_of g s)) i []))) 1 (a + 1) (b + 1)) 0 (length (declaring_statements (symbol_of g s)))
        (λ k l u. by-forward _ a b p q (rw (e, f) (K1 (owner (symbol_of g s)) s k refl (omega (arith, u)))))

    -- at a module's line, for lines from number i on
    joins-all-stand : (m k i : ℕ) (ls : List Line) → k < n → fact_at lines k ≡ module_fact m → i + length ls ≤ n → ((j : ℕ) → j < length ls → fact_at ls j ≡ fact_at lines (i + j))
        → Every (Stands lines n) (joins_all g m k i ls)
    unfolding joins_all forwards_to fact_at
    joins-all-stand m k i [] p e l same = tt
    joins-all-stand m k i (x ∷ ls) p e l same =
        go (is_forward_of g m x.fact) refl
        (joins-all-stand m k (i + 1) ls p e (omega arith) (λ j u. let z : i + suc j ≡ i + 1 + j = omega arith in same (suc j) (omega (arith, u)) ∙ ap (λ c. fact_at lines c) z))
      where
        go : (b : Bool) → is_forward_of g m x.fact ≡ b → Every (Stands lines n) (joins_all g m k (i + 1) ls)
            → Every (Stands lines n) (elim b [ true ↦ joined g (first_part x.fact) (k + 1) (i + 1) ++ joins_all g m k (i + 1) ls | false ↦ joins_all g m k (i + 1) ls ])
        go true q r =
            let f = forward_there g m x.fact q in
            let z : i + 0 ≡ i = omega arith in
            every_append (Stands lines n) (joined g (first_part x.fact) (k + 1) (i + 1)) (joins_all g m k (i + 1) ls)
            (at_module (first_part x.fact) k i p (omega arith) (e ∙ ap (λ o. module_fact o) (sym f.1)) (ap (λ c. fact_at lines c) (sym z) ∙ sym (same 0 (omega arith)) ∙ f.0)) r
        go false q r = r

  -- the module's line, if there is one
  module_named : (m i : ℕ) (ls : List Line) → (module_line m i ls ≡ 0 → ⊥) → (a : ℕ) × (a < length ls) × (fact_at ls a ≡ module_fact m) × (module_line m i ls ≡ i + a + 1)
  unfolding module_line is_module fact_at
  module_named m i [] n = absurd (n refl)
  module_named m i (x ∷ ls) n = go (is_the_module m x.fact) refl (λ e. module_named m (i + 1) ls e)
    where
      go : (b : Bool) → is_the_module m x.fact ≡ b
          → ((module_line m (i + 1) ls ≡ 0 → ⊥) → (a : ℕ) × (a < length ls) × (fact_at ls a ≡ module_fact m) × (module_line m (i + 1) ls ≡ i + 1 + a + 1))
          → (a : ℕ) × (a < length (x ∷ ls)) × (fact_at (x ∷ ls) a ≡ module_fact m) × (module_line m i (x ∷ ls) ≡ i + a + 1)
      go true e r = let z : i + 1 ≡ i + 0 + 1 = omega arith in (0, omega arith, module_there m x.fact e, rw (e, module_line) z)
      go false e r =
          let p = r (λ z. n (rw (e, module_line) z)) in
          (suc p.0, omega (arith, p.1), p.2, rw (e, module_line) (omega (arith, p.3)))

  name_is : (n : ℕ) → 0 < n → name_of 0 n ≡ n
  unfolding name_of
  name_is n h = rw (lt-leb n 0 h, name_of)

  taken : (lines : List Line) (k a : ℕ) → a < k → fact_at (take k lines) a ≡ fact_at lines a
  unfolding fact_at
  taken lines k a l = ap (λ x. x.fact) (get_or-take k lines a no_line l)

  -- what follows from line k
  module _ (lines : List Line) (k : ℕ) (u : k < length lines) where
    abbrev Right : Line → Type 0
    Right = Stands lines (length lines)

    forward-stand : (s : ℕ) → fact_at lines k ≡ forward_fact s → Every Right (joined_to g 0 s k (module_line (owner (symbol_of g s)) 0 (take k lines)))
    unfolding joined_to
    forward-stand s e = go (eqb at 0) refl
      where
        at : ℕ
        at = module_line (owner (symbol_of g s)) 0 (take k lines)

        go : (b : Bool) → eqb at 0 ≡ b → Every Right (elim b [ true ↦ [] | false ↦ joined g s (k + 1) (name_of 0 at) ])
        go true q = tt
        go false q =
            let p = module_named (owner (symbol_of g s)) 0 (take k lines) (eqb-false at 0 q) in
            let w : p.0 < k = omega (arith, p.1, length-take-le k lines (omega (arith, u))) in
            let z : name_of 0 at ≡ p.0 + 1 = name_is at (omega (arith, p.3)) ∙ omega (arith, p.3) in
            rw z (at_forward lines (length lines) s k p.0 u (omega (arith, u, w)) e (sym (taken lines k p.0 w) ∙ p.2))

    joins-stand : (f : Fact) → fact_at lines k ≡ f → Every Right (joins g 0 lines k f)
    unfolding joins
    joins-stand (Module m) e =
        joins-all-stand lines (length lines) m.0 k 0 (take k lines) u e (omega (arith, length-take-le k lines (omega (arith, u))))
        (λ j l. let z : 0 + j ≡ j = omega arith in taken lines k j (omega (arith, l, length-take-le k lines (omega (arith, u)))) ∙ ap (λ c. fact_at lines c) (sym z))
    joins-stand (Statement m i) e = tt
    joins-stand (Use s x) e = tt
    joins-stand (CheckedUse s x) e = tt
    joins-stand (Forward s) e = forward-stand s.0 e
    joins-stand (Bailout m) e = tt

    followed-stand : Every Right (followed g v k (fact_at lines k))
    unfolding followed
    followed-stand =
        every_map Right (λ x. line x.fact x.rule (k + 1) 0) (given 0 (module_fact 0)) (gives g v (fact_at lines k))
        (λ i l. by_one _ _ k u (record { number = i; inside = l; is = refl }))

    news-stand : Every Right (news g v 0 lines k)
    unfolding news
    news-stand = every_append Right (joins g 0 lines k (fact_at lines k)) (followed g v k (fact_at lines k)) (joins-stand (fact_at lines k) refl) followed-stand

  -- a drain
  drained_stand : (fuel k : ℕ) (lines : List Line) → AllStand lines → AllStand (drained g v 0 fuel k lines)
  unfolding drained
  drained_stand zero k lines h = h
  drained_stand (suc fuel) k lines h =
      go (ltb k (length lines)) refl (λ u. drained_stand fuel (k + 1) (adds g 0 lines (news g v 0 lines k)) (adds_stand 0 lines (news g v 0 lines k) h (news-stand lines k u)))
    where
      go : (b : Bool) → ltb k (length lines) ≡ b → (k < length lines → AllStand (drained g v 0 fuel (k + 1) (adds g 0 lines (news g v 0 lines k))))
          → AllStand (elim b [ true ↦ drained g v 0 fuel (k + 1) (adds g 0 lines (news g v 0 lines k)) | false ↦ lines ])
      go true e r = r (ltb-true k (length lines) e)
      go false e r = h

  started_stand : (lines : List Line) (f : Fact) → Among starts f → AllStand lines → AllStand (started g v 0 lines f)
  unfolding started
  started_stand lines f a h = drained_stand (mark_count g) (length lines) (added g 0 lines (line f 0 0 0)) (added_stand 0 lines (line f 0 0 0) h (as_start f a))

  all_stand : (fs : List Fact) (lines : List Line) → Every (Among starts) fs → AllStand lines → AllStand (drained_all g v 0 fs lines)
  unfolding drained_all
  all_stand [] lines a h = h
  all_stand (f ∷ fs) lines a h = all_stand fs (started g v 0 lines f) a.1 (started_stand lines f a.0 h)

-- every line of a drain
pub drain_stands : (g : Graph) (v : List ℕ) (starts : List Fact) → AllStand g v starts (drain_of g v starts)
unfolding drain_of
drain_stands g v starts = all_stand g v starts starts [] (all_among starts) (λ k u. absurd (omega (arith, u)))
