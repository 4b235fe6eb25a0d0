-- `module_inclusion_changed`: set exactly if a module was included.
use Rattle.std.proofs.Common.{◌≡◌, ℕ, Bool, true, false, not, ◌&&◌, eqb, ◌⊎◌, List, ◌∷◌, sym, refl, ◌∙◌, subst, inl, inr}
use mathlib.Core.Bool.{false≢true}
use Rattle.determine_side_effects.specs.graph_crate.Check.{Graph}
use Rattle.determine_side_effects.specs.graph_access_crate.Words.{normal}
use Rattle.determine_side_effects.specs.Effects.{last_verdicts}
use Rattle.keep_record.specs.Lines.{elem}
use Rattle.rust_values.specs.Values.{has_pair, In}
use Rattle.rust_engine.specs.Context.{Context, WorkItem, module_item, symbol_item, statement_item, rest, set_module, set_statement, set_changed, set_deferred}
use Rattle.rust_engine.specs.Tables.{has_side_effects}
use Rattle.rust_engine.specs.Engine.{Drains, returns, pops, Orders, Reorders, drain_deferred, module_body, handle_include_module, handle_include_symbol, handle_include_statement, handle}
use Rattle.rust_values.proofs.Members.{in_elem}
use Rattle.rust_engine.proofs.Asking.{Grown}
use Rattle.rust_engine.proofs.Statements.{statement_body, asks_statement}
use Rattle.rust_engine.proofs.Modules.{asks-module}
use Rattle.rust_engine.proofs.HandlingUses.{symbol_grown}
use Rattle.rust_engine.proofs.Waiting.{marked, asks-joined}

-- a step: no module was included, or one that was not
pub record Same (c d : Context) : Type 0 where
  pub modules_are : d.modules ≡ c.modules
  pub changed_is : d.changed ≡ c.changed

pub record New (c d : Context) : Type 0 where
  pub which : ℕ
  pub fresh : In which c.modules → ⊥
  pub modules_are : d.modules ≡ which ∷ c.modules
  pub changed_is : d.changed ≡ true

-- any number of steps
pub record Counted (c d : Context) : Type 0 where
  pub stays : (m : ℕ) → In m c.modules → In m d.modules
  pub once-set : c.changed ≡ true → d.changed ≡ true
  pub unset : d.changed ≡ false → d.modules ≡ c.modules
  pub set : c.changed ≡ false → d.changed ≡ true → (m : ℕ) × In m d.modules × (In m c.modules → ⊥)

pub counted_refl : (c : Context) → Counted c c
counted_refl c = record { stays = λ m q. q; once-set = λ q. q; unset = λ q. refl; set = λ q r. absurd (false≢true (sym q ∙ r)) }

pub counted_trans : (c d e : Context) → Counted c d → Counted d e → Counted c e
counted_trans c d e h k =
    record {
      stays = λ m q. k.stays m (h.stays m q);
      once-set = λ q. k.once-set (h.once-set q);
      unset = λ q. k.unset q ∙ h.unset (unset-before d.changed refl q);
      set = λ q r. set-by d.changed refl q r;
    }
  where
    unset-before : (b : Bool) → d.changed ≡ b → e.changed ≡ false → d.changed ≡ false
    unset-before true p q = absurd (false≢true (sym q ∙ k.once-set p))
    unset-before false p q = p

    set-by : (b : Bool) → d.changed ≡ b → c.changed ≡ false → e.changed ≡ true → (m : ℕ) × In m e.modules × (In m c.modules → ⊥)
    set-by true p q r = let z = h.set q p in (z.0, k.stays z.0 z.1, z.2)
    set-by false p q r = let z = k.set p r in (z.0, z.1, λ y. z.2 (h.stays z.0 y))

module _ (g : Graph) where
  abbrev v : List ℕ
  v = last_verdicts g

  grown_same : (b c d : Context) → c.modules ≡ b.modules → c.changed ≡ b.changed → Grown g v c d → Same b d
  grown_same b c d m e h = record { modules_are = h.modules_same ∙ m; changed_is = h.changed-same ∙ e }

  symbol_changed : (s x : ℕ) (c : Context) → Same c (handle_include_symbol g v s x c)
  symbol_changed s x c = grown_same c c (handle_include_symbol g v s x c) refl refl (symbol_grown g s x c)

  statement_changed : (m i : ℕ) (c : Context) → Same c (handle_include_statement g v m i c)
  unfolding handle_include_statement set_statement
  statement_changed m i c = go (normal g m) (has_pair m i c.statements)
    where
      go : (a b : Bool) → Same c (elim a [ true ↦ elim b [ true ↦ c | false ↦ statement_body g m i (set_statement m i c) ] | false ↦ c ])
      go true true = record { modules_are = refl; changed_is = refl }
      go true false = grown_same c (set_statement m i c) (statement_body g m i (set_statement m i c)) refl refl (asks_statement g m i (set_statement m i c)).grown
      go false b = record { modules_are = refl; changed_is = refl }

  module_changed : (order : Orders) → Reorders order → (m : ℕ) (c : Context) → Same c (handle_include_module g v order m c)
      ⊎ New c (handle_include_module g v order m c)
  unfolding handle_include_module set_deferred set_changed set_module
  module_changed order o m c = go (normal g m) (elem m c.modules) refl (not (eqb m g.header.runtime && not (has_side_effects v m)))
    where
      j : Context
      j = drain_deferred g m (set_changed true (set_module m c))

      joined : Grown g v (marked g m c) j
      joined = (asks-joined g m c).grown

      new : (d : Context) → elem m c.modules ≡ false → Grown g v j d → New c d
      new d e h =
          record {
            which = m;
            fresh = λ q. false≢true (sym e ∙ in_elem m c.modules q);
            modules_are = h.modules_same ∙ joined.modules_same;
            changed_is = h.changed-same ∙ joined.changed-same;
          }

      go : (a b : Bool) → elem m c.modules ≡ b → (q : Bool)
          → Same c (elim a [ true ↦ elim b [ true ↦ c | false ↦ elim q [ true ↦ module_body g v order m j | false ↦ j ] ] | false ↦ c ])
          ⊎ New c (elim a [ true ↦ elim b [ true ↦ c | false ↦ elim q [ true ↦ module_body g v order m j | false ↦ j ] ] | false ↦ c ])
      go true true e q = inl (record { modules_are = refl; changed_is = refl })
      go true false e true = inr (new (module_body g v order m j) e (asks-module g order o m j).grown)
      go true false e false =
          inr (record {
            which = m;
            fresh = λ q. false≢true (sym e ∙ in_elem m c.modules q);
            modules_are = joined.modules_same;
            changed_is = joined.changed-same;
          })
      go false b e q = inl (record { modules_are = refl; changed_is = refl })

  handle_changed : (order : Orders) → Reorders order → (i : WorkItem) (c : Context) → Same c (handle g v order i c)
      ⊎ New c (handle g v order i c)
  unfolding handle
  handle_changed order o (module_item m) c = module_changed order o m c
  handle_changed order o (symbol_item s x) c = inl (symbol_changed s x c)
  handle_changed order o (statement_item m i) c = inl (statement_changed m i c)

  -- over a drain
  pub drains_counted_of : (c d : Context) → Drains g v c d → Counted c d
  unfolding rest
  drains_counted_of c d (returns _ e) = counted_refl c
  drains_counted_of c d (pops _ _ i is order o e more) = go (handle_changed order o i (rest is c)) (drains_counted_of (handle g v order i (rest is c)) d more)
    where
      h : Context
      h = handle g v order i (rest is c)

      go : Same (rest is c) h ⊎ New (rest is c) h → Counted h d → Counted c d
      go (inl s) k =
          record {
            stays = λ m q. k.stays m (subst (λ xs. In m xs) (sym s.modules_are) q);
            once-set = λ q. k.once-set (s.changed_is ∙ q);
            unset = λ q. k.unset q ∙ s.modules_are;
            set = λ q r. let z = k.set (s.changed_is ∙ q) r in (z.0, z.1, λ y. z.2 (subst (λ xs. In z.0 xs) (sym s.modules_are) y));
          }
      go (inr n) k =
          record {
            stays = λ m q. k.stays m (subst (λ xs. In m xs) (sym n.modules_are) (inr q));
            once-set = λ q. k.once-set n.changed_is;
            unset = λ q. absurd (false≢true (sym q ∙ k.once-set n.changed_is));
            set = λ q r. (n.which, k.stays n.which (subst (λ xs. In n.which xs) (sym n.modules_are) (inl refl)), n.fresh);
          }

  -- what is asked for before a drain includes no module
  pub grown_counted : (c d : Context) → Grown g v c d → Counted c d
  grown_counted c d h =
      record {
        stays = λ m q. subst (λ xs. In m xs) (sym h.modules_same) q;
        once-set = λ q. h.changed-same ∙ q;
        unset = λ q. h.modules_same;
        set = λ q r. absurd (false≢true (sym q ∙ (sym h.changed-same ∙ r)));
      }

  pub enters_counted : (c b d : Context) → Grown g v c b → Drains g v b d → Counted c d
  enters_counted c b d h e = counted_trans c b d (grown_counted c b h) (drains_counted_of b d e)
