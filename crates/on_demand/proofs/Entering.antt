-- The loops that mark entries' modules and enter the keys of bodies.
use Prim.Native.Nat.{ℕ, zero, suc, ◌+◌, ◌-◌, ◌<◌, ◌≤◌}
use mathlib.Core.Path.{◌≡◌, refl, ap, ◌∙◌, sym}
use mathlib.Core.Logic.{◌≢◌}
use mathlib.Core.Bool.{Bool, true, false, ◌&&◌, ◌||◌}
use mathlib.Core.List.{List, []}
use native.Mathlib.Decide.{ℕ_discrete}
use native.Mathlib.Numerals.{add-one}
use native.Mathlib.Omega.{arith}
use borrow.Author.Tests.{eq-eqb, ne_eqb, lt-ltb, ltb-true}
use lib.Dec.{eqb, ltb}
use lib.ListN.{length, get_or, set, drop}
use Rattle.determine_side_effects.specs.graph_format_crate.declared.Header.{Header}
use Rattle.determine_side_effects.specs.tables_crate.Layout.{sizes, start_of, Laid, Kept, on_demand_in, at_on_demand, all_sections}
use Rattle.determine_side_effects.proofs.tables_crate.Sections.{section-length, laid_kept}
use Rattle.determine_side_effects.specs.rows_crate.Walk.{Item, no_item}
use Rattle.determine_side_effects.specs.graph_crate.Check.{Graph}
use Rattle.determine_side_effects.specs.graph_access_crate.Names.{entry_module, entry_kind, namespace, own_exports, only}
use Rattle.determine_side_effects.specs.graph_access_crate.Words.{root_of}
use Rattle.determine_side_effects.specs.graph_access_crate.Words.{some, module_of, option}
use Rattle.determine_side_effects.proofs.facts_crate.Folds.{by_some, by_some_step, set_here, set_there}
use Rattle.determine_side_effects.proofs.InSection.{kept_written, section_written}
use Rattle.on_demand.specs.Demand.{user_entry, has_body, claims, claimed, body_of}
use Rattle.on_demand.specs.Tabled.{one, keyed}

-- entries
abbrev pub marks : ℕ → Item → Bool
marks m e = eqb (entry_module e) m && ltb (entry_kind e) 2

pub marks_start : (g : Graph) (m x : ℕ) → x ≡ 0 → by_some (marks m) 1 g.entries x ≡ one (user_entry g m)
unfolding by_some user_entry one
marks_start g m x e = rw e

-- a turn of the loop: the section has been written to, or not
pub record Turn (es : List Item) (k : ℕ) (h : Header) (first tables later : List ℕ) : Type 0 where
  pub kept : Kept (start_of h at_on_demand) first later
  pub entries : (m : ℕ) → by_some (marks m) 1 (drop (k + 1) es) (get_or (on_demand_in later) m 0) ≡ by_some (marks m) 1 (drop k es) (get_or (on_demand_in tables) m 0)

module _ (es : List Item) (k : ℕ) (l : k < length es) (h : Header) (first tables later : List ℕ) (t : Laid h all_sections first) (q : Kept (start_of h at_on_demand) first tables) where
  abbrev entry : Item
  entry = get_or es k no_item

  pub turn_user : (m : ℕ) → m ≡ entry_module entry → entry_kind entry < 2 → m < h.modules → later ≡ set tables (get_or first 6 0 + m) 1 → Turn es k h first tables later
  unfolding sizes
  turn_user m is u i e =
      let w = ap on_demand_in e ∙ section_written t 6 (omega arith) q m i 1 in
      record {
        kept = rw e (kept_written t 6 (omega arith) q m i 1);
        entries = λ s. ap (λ table. by_some (marks s) 1 (drop (k + 1) es) (get_or table s 0)) w ∙ each s;
      }
    where
      two : ltb (entry_kind entry) 2 ≡ true
      two = lt-ltb (entry_kind entry) 2 u

      and-two : (b : Bool) → (b && true) ≡ b
      and-two true = refl
      and-two false = refl

      test : (s : ℕ) → marks s entry ≡ eqb m s
      test s = rw (two, sym is) (and-two (eqb m s))

      long : m < length (on_demand_in tables)
      long = omega (arith, i, section-length (laid_kept t 6 (omega arith) q) 6 (omega arith))

      each : (s : ℕ) → by_some (marks s) 1 (drop (k + 1) es) (get_or (set (on_demand_in tables) m 1) s 0) ≡ by_some (marks s) 1 (drop k es) (get_or (on_demand_in tables) s 0)
      each s =
          by_some_step (marks s) 1 no_item es k _ _ l (λ b. set_here (on_demand_in tables) m 1 s long (sym (test s) ∙ b)) (λ b. set_there (on_demand_in tables) m 1 s (sym (test s) ∙ b))

  pub turn_other : 2 ≤ entry_kind entry → later ≡ tables → Turn es k h first tables later
  turn_other u e = rw e (record { kept = q; entries = each })
    where
      none : (b : Bool) → (b && ltb (entry_kind entry) 2) ≡ true → ⊥
      none true b = let w = ltb-true (entry_kind entry) 2 b in omega (arith, w, u)
      none false b = let w : ◌≡◌ {A = ℕ} 0 1 = ap (λ b. elim b [ true ↦ 1 | false ↦ 0 ]) b in omega (arith, w)

      each : (s : ℕ) → by_some (marks s) 1 (drop (k + 1) es) (get_or (on_demand_in tables) s 0) ≡ by_some (marks s) 1 (drop k es) (get_or (on_demand_in tables) s 0)
      each s = by_some_step (marks s) 1 no_item es k _ _ l (λ b. absurd (none (eqb (entry_module entry) s) b)) (λ b. refl)

-- keys
abbrev pub rooted : Graph → ℕ → List ℕ → Bool
rooted g s row = eqb (root_of g.symbols (only row)) s

pub key_step : (g : Graph) (rows : List (List ℕ)) (k : ℕ) → k < length rows → (table : List ℕ) (value r : ℕ) → r ≡ root_of g.symbols (only (get_or rows k [])) → r < length table
    → (s : ℕ) → by_some (rooted g s) value (drop (k + 1) rows) (get_or (set table r value) s 0) ≡ by_some (rooted g s) value (drop k rows) (get_or table s 0)
key_step g rows k l table value r is i s =
    let f = ap (λ j. eqb j s) is in
    by_some_step (rooted g s) value [] rows k _ _ l (λ t. set_here table r value s i (f ∙ t)) (λ t. set_there table r value s (f ∙ t))

-- the namespace as it stands, behind the own exports
pub key_last : (g : Graph) (m s n : ℕ) (table : List ℕ) (before : ℕ) → n ≡ namespace (module_of g m) → 0 < n → n - 1 < length table
    → get_or table s 0 ≡ by_some (rooted g s) (m + 1) (own_exports (module_of g m)) before → get_or (set table (n - 1) (m + 1)) s 0 ≡ keyed g m s before
unfolding by_some keyed
key_last g m s n table before is pos i e = go (ℕ_discrete (n - 1) s)
  where
    or_true : (b : Bool) → (b || true) ≡ true
    or_true true = refl
    or_true false = refl

    or-false : (b : Bool) → (b || false) ≡ b
    or-false true = refl
    or-false false = refl

    listed : Bool
    listed = some (rooted g s) (own_exports (module_of g m))

    go : Dec (n - 1 ≡ s) → get_or (set table (n - 1) (m + 1)) s 0 ≡ keyed g m s before
    go (yes z) =
        let y : n ≡ s + 1 = omega (arith, z, pos) in
        let a = eq-eqb n (s + 1) y in
        let o = or_true (some (rooted g s) (own_exports (module_of g m))) in
        set_here table (n - 1) (m + 1) s i (eq-eqb (n - 1) s z) ∙ rw (sym is, a, o, keyed)
    go (no z) =
        let y : n ≢ s + 1 = λ w. z (omega (arith, w)) in
        let a = ne_eqb n (s + 1) y in
        let o = or-false (some (rooted g s) (own_exports (module_of g m))) in
        set_there table (n - 1) (m + 1) s (ne_eqb (n - 1) s z) ∙ e ∙ rw (sym is, a, o, keyed)

-- bodies: the first m modules have entered theirs
module _ (g : Graph) (v : List ℕ) (m s x : ℕ) (is : x ≡ claimed g v s m) where
  claimed_yes : claims g v m s ≡ true → m + 1 ≡ claimed g v s (m + 1)
  unfolding claimed
  claimed_yes c = let a = add-one m in rw (a, c, claimed)

  claimed_no : claims g v m s ≡ false → x ≡ claimed g v s (m + 1)
  unfolding claimed
  claimed_no c = let a = add-one m in rw (a, c, claimed) is

  abbrev key : Bool
  key = some (λ row. eqb (root_of g.symbols (only row)) s) (own_exports (module_of g m)) || eqb (namespace (module_of g m)) (s + 1)

  claims_key : has_body g v m ≡ true → claims g v m s ≡ key
  unfolding claims
  claims_key b = rw (b, claims)

  pub body_skips : has_body g v m ≡ false → x ≡ claimed g v s (m + 1)
  unfolding claims
  body_skips b = claimed_no (rw (b, claims))

  enters : has_body g v m ≡ true → (t : Bool) → key ≡ t → keyed g m s x ≡ claimed g v s (m + 1)
  unfolding keyed
  enters b true k = rw (k, keyed) (claimed_yes (claims_key b ∙ k))
  enters b false k = rw (k, keyed) (claimed_no (claims_key b ∙ k))

  pub body_enters : (y : ℕ) → has_body g v m ≡ true → y ≡ keyed g m s x → y ≡ claimed g v s (m + 1)
  body_enters y b e = e ∙ enters b key refl

pub body_none : (g : Graph) (v : List ℕ) (s x : ℕ) → option g 0 ≡ false → x ≡ 0 → x ≡ body_of g v s
unfolding body_of
body_none g v s x o z = rw (o, body_of) z

pub body_all : (g : Graph) (v : List ℕ) (s x : ℕ) → option g 0 ≡ true → x ≡ claimed g v s g.header.modules → x ≡ body_of g v s
unfolding body_of
body_all g v s x o z = rw (o, body_of) z

-- a body is 1 more than a module, or 0
claimed_fits : (g : Graph) (v : List ℕ) (s k : ℕ) → claimed g v s k ≤ k
unfolding claimed
claimed_fits g v s zero = omega arith
claimed_fits g v s (suc k) = go (claimed_fits g v s k) (claims g v k s) refl
  where
    go : claimed g v s k ≤ k → (b : Bool) → claims g v k s ≡ b → claimed g v s (suc k) ≤ suc k
    go h true e = rw (e, claimed) (omega arith)
    go h false e = rw (e, claimed) (omega (arith, h))

pub body_fits : (g : Graph) (v : List ℕ) (s : ℕ) → body_of g v s ≤ g.header.modules
unfolding body_of
body_fits g v s = go (option g 0) refl
  where
    go : (b : Bool) → option g 0 ≡ b → body_of g v s ≤ g.header.modules
    go true e = rw (e, body_of) (claimed_fits g v s g.header.modules)
    go false e = rw (e, body_of) (omega arith)
