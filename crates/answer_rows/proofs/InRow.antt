-- What a fact shows is in its row.
use Prim.Native.Nat.{ℕ, zero, suc, ◌+◌, ◌*◌, ◌<◌, ◌≤◌}
use mathlib.Core.Path.{◌≡◌, refl, ap, ◌∙◌, sym}
use mathlib.Core.Bool.{Bool, true, false, ◌||◌, not}
use mathlib.Core.List.{List, [], ◌∷◌, ◌++◌}
use native.Mathlib.Omega.{arith}
use borrow.Author.Tests.{ne_eqb, eqb-false}
use lib.Dec.{eqb}
use lib.ListN.{length, get_or, drop, replicate}
use Rattle.bit_row.specs.Row.{bytes_for, bit_at, cleared}
use Rattle.bit_row.proofs.Size.{bytes_hold}
use Rattle.bit_row.proofs.Cleared.{cleared_unset, cleared_kept}
use Rattle.determine_side_effects.specs.graph_tables_crate.Tables.{header_in}
use Rattle.determine_side_effects.specs.graph_crate.Check.{Graph, graph_in}
use Rattle.determine_side_effects.specs.graph_access_crate.Names.{module_type, owner, alias_namespace}
use Rattle.determine_side_effects.specs.graph_access_crate.Words.{root_of}
use Rattle.determine_side_effects.specs.facts_crate.declared.Fact.{Fact}
use Rattle.determine_side_effects.specs.facts_crate.declared.Fact.TheVariants.{Module, Statement, Use, CheckedUse, Forward, Bailout}
use Rattle.determine_side_effects.specs.index_crate.declared.SymbolIdx.{SymbolIdx}
use Rattle.determine_side_effects.specs.facts_crate.declared.Reason.{Reason}
use Rattle.determine_side_effects.specs.index_crate.declared.ModuleIdx.{ModuleIdx}
use Rattle.determine_side_effects.specs.index_crate.declared.StmtIdx.{StmtIdx}
use Rattle.determine_side_effects.specs.graph_access_crate.Words.{flag, tabulate, some, statement_list, module_of, symbol_of, normal}
use Rattle.determine_side_effects.specs.facts_crate.Facts.{Good}
use Rattle.determine_side_effects.specs.graph_crate.Loaded.{Loaded}
use Rattle.determine_side_effects.proofs.graph_access_crate.Indexes.{owner_below, root_below, alias_below}
use Rattle.linking_metadata.specs.Namespaces.{is_namespace, target_of}
use Rattle.keep_rules.specs.Rules.{bypassed, dev_namespace}
use Rattle.keep_record.specs.Lines.{elem}
use Rattle.keep_record.specs.Held.{line_at, lines_of}
use Rattle.answer_rows.specs.declared.Row.{Row}
use Rattle.answer_rows.specs.declared.Row.TheVariants.{Modules, Statements, Used, External, Json, NamespaceReason}
use Rattle.answer_rows.specs.Shown.{only_if, used_by, external_by, json_by, reason_by, shows, row_bytes, shown, bit_value, byte_of, bytes_of, shown_row}
use Rattle.answer_rows.specs.Together.{ShowsLines}
use Rattle.answer_rows.proofs.Tabulated.{none_passes}
use Rattle.answer_rows.proofs.Bytes.{row_is}
use Rattle.answer_rows.proofs.FirstBytes.{statement_inside}
use Rattle.answer_rows.proofs.OfUses.{json_if, reason_if}

-- how many bytes each has
module _ (g : Graph) (row : Row) where
  pub modules_bytes : row ≡ Modules → row_bytes g row ≡ bytes_for g.header.modules
  unfolding row_bytes
  modules_bytes e = rw e

  pub statements_bytes : row ≡ Statements → row_bytes g row ≡ row_bytes g Statements
  statements_bytes e = rw e

  pub used_bytes : row ≡ Used → row_bytes g row ≡ bytes_for g.header.symbols
  unfolding row_bytes
  used_bytes e = rw e

  pub external_bytes : row ≡ External → row_bytes g row ≡ bytes_for g.header.symbols
  unfolding row_bytes
  external_bytes e = rw e

  pub json_bytes : row ≡ Json → row_bytes g row ≡ bytes_for g.header.symbols
  unfolding row_bytes
  json_bytes e = rw e

  pub reasons_bytes : row ≡ NamespaceReason → row_bytes g row ≡ g.header.modules
  unfolding row_bytes
  reasons_bytes e = rw e

-- a cleared row shows no lines
no_bytes : (g : Graph) (row : Row) (i n : ℕ) → replicate n 0 ≡ tabulate (byte_of (shown g row [])) i n
unfolding tabulate byte_of bit_value shown some
no_bytes g row i zero = refl
no_bytes g row i (suc n) = ap (λ (l : List ℕ). 0 ∷ l) (no_bytes g row (i + 1) n)

cleared_shown : (g : Graph) (row : Row) (lent : List ℕ) → cleared (row_bytes g row) lent ≡ shown_row g row [] lent
unfolding cleared shown_row bytes_of
cleared_shown g row lent = ap (λ (l : List ℕ). l ++ drop (row_bytes g row) lent) (no_bytes g row 0 (row_bytes g row))

pub cleared_row : (g : Graph) (row : Row) (n : ℕ) (lent bare : List ℕ) → n ≡ row_bytes g row → bare ≡ cleared n lent → bare ≡ shown_row g row [] lent
cleared_row g row n lent bare e c = c ∙ ap (λ k. cleared k lent) e ∙ cleared_shown g row lent

-- a good fact, by its kind
pub good_module : (g : Graph) (f : Fact) (m : ModuleIdx) → f ≡ Module m → Good g f → Good g (Module m)
good_module g f m e h = rw e at h

pub good_statement : (g : Graph) (f : Fact) (m : ModuleIdx) (i : StmtIdx) → f ≡ Statement m i → Good g f → Good g (Statement m i)
good_statement g f m i e h = rw e at h

pub good_use : (g : Graph) (f : Fact) (s : SymbolIdx) (x : Reason) → f ≡ Use s x → Good g f → Good g (Use s x)
good_use g f s x e h = rw e at h

pub good_same : (g : Graph) (f h : Fact) → f ≡ h → Good g h → Good g f
good_same g f h e k = rw e k

-- a list whose numbers are all below a limit has no number from the limit on
abbrev pub Under : ℕ → List ℕ → Type 0
Under n [] = Unit {0}
Under n (x ∷ xs) = (x < n) × Under n xs

pub under_not : (n j : ℕ) (xs : List ℕ) → Under n xs → n ≤ j → elem j xs ≡ false
unfolding elem
under_not n j [] u l = refl
under_not n j (x ∷ xs) u l = let d = ne_eqb j x (λ e. omega (arith, e, u.0, l)) in rw (d, elem) (under_not n j xs u.1 l)

under_append : (n : ℕ) (xs ys : List ℕ) → Under n xs → Under n ys → Under n (xs ++ ys)
under_append n [] ys u v = v
under_append n (x ∷ xs) ys u v = (u.0, under_append n xs ys u.1 v)

under_only : (n k : ℕ) (b : Bool) → k < n → Under n (only_if b k)
unfolding only_if
under_only n k true l = (l, tt)
under_only n k false l = tt

module _ {numbers tables : List ℕ} (t : Loaded numbers tables) where
  pub target_below : (s : ℕ) → s < (header_in numbers).symbols → target_of (graph_in numbers) s < (header_in numbers).symbols
  unfolding target_of
  target_below s h = go (eqb alias 0) refl
    where
      root : ℕ
      root = root_of (graph_in numbers).symbols s

      alias : ℕ
      alias = alias_namespace (symbol_of (graph_in numbers) root)

      go : (b : Bool) → eqb alias 0 ≡ b → target_of (graph_in numbers) s < (header_in numbers).symbols
      go true e = rw (e, target_of) (root_below t s h)
      go false e = let n = eqb-false alias 0 e in rw (e, target_of) (omega (arith, n, alias_below t root (root_below t s h)))

  abbrev g : Graph
  g = graph_in numbers

  abbrev Within : Row → Fact → Type 0
  Within row f = Under (8 * row_bytes g row) (shows g row f)

  used_under : (n s x : ℕ) → (header_in numbers).symbols ≤ n → s < (header_in numbers).symbols → Under n (used_by g s x)
  unfolding used_by
  used_under n s x l h = go (bypassed g s x) refl
    where
      go : (b : Bool) → bypassed g s x ≡ b → Under n (used_by g s x)
      go true e = rw (e, used_by) tt
      go false e = rw (e, used_by) (omega arith, (omega (arith, target_below s h), tt))

  external_under : (n s x : ℕ) → (header_in numbers).symbols ≤ n → s < (header_in numbers).symbols → Under n (external_by g s x)
  unfolding external_by
  external_under n s x l h = go (bypassed g s x) refl
    where
      go : (b : Bool) → bypassed g s x ≡ b → Under n (external_by g s x)
      go true e = rw (e, external_by) tt
      go false e =
          rw (e, external_by)
          (under_append n (only_if (not (normal g (owner (symbol_of g s)))) s) (only_if (not (normal g (owner (symbol_of g (target_of g s))))) (target_of g s))
          (under_only n s (not (normal g (owner (symbol_of g s)))) (omega arith))
          (under_only n (target_of g s) (not (normal g (owner (symbol_of g (target_of g s))))) (omega (arith, target_below s h))))

  json_if_under : (n t : ℕ) (by nor json self : Bool) → t < n → Under n (json_if by nor json self t)
  unfolding json_if
  json_if_under n t true nor json self l = tt
  json_if_under n t false nor json self l = under_only n t _ l

  reason_if_under : (n o : ℕ) (by names a b c : Bool) → o < n → Under (8 * n) (reason_if by names a b c o)
  unfolding reason_if only_if
  reason_if_under n o true names a b c l = tt
  reason_if_under n o false false a b c l = tt
  reason_if_under n o false true true b c l = (omega arith, tt)
  reason_if_under n o false true false true c l = (omega arith, tt)
  reason_if_under n o false true false false true l = (omega arith, tt)
  reason_if_under n o false true false false false l = tt

  json_under : (n s x : ℕ) → (header_in numbers).symbols ≤ n → s < (header_in numbers).symbols → Under n (json_by g s x)
  unfolding json_by json_if
  json_under n s x l h =
      json_if_under n (target_of g s) (bypassed g s x) (normal g (owner (symbol_of g (target_of g s)))) (eqb (module_type (module_of g (owner (symbol_of g (target_of g s))))) 2)
      (flag 3 x) (omega (arith, target_below s h))

  reason_under : (s x : ℕ) → s < (header_in numbers).symbols → Under (8 * (header_in numbers).modules) (reason_by g s x)
  unfolding reason_by reason_if
  reason_under s x h =
      reason_if_under (header_in numbers).modules (owner (symbol_of g (target_of g s))) (bypassed g s x) (is_namespace g (target_of g s)) (flag 0 x) (flag 1 x)
      (flag 2 x) (owner_below t (target_of g s) (target_below s h))

  within : (row : Row) (f : Fact) → Good g f → Within row f
  unfolding shows row_bytes graph_in statement_list
  within Modules (Module m) h = (omega (arith, h.0, bytes_hold g.header.modules), tt)
  within Modules (Statement m i) h = tt
  within Modules (Use s x) h = tt
  within Modules (CheckedUse s x) h = tt
  within Modules (Forward s) h = tt
  within Modules (Bailout m) h = tt
  within Statements (Module m) h = tt
  within Statements (Statement m i) h = (statement_inside g.statements m.0 g.header.modules i.0 h.0 h.1, tt)
  within Statements (Use s x) h = tt
  within Statements (CheckedUse s x) h = tt
  within Statements (Forward s) h = tt
  within Statements (Bailout m) h = tt
  within Used (Module m) h = tt
  within Used (Statement m i) h = tt
  within Used (Use s x) h = used_under (8 * bytes_for g.header.symbols) s.0 x.bits (bytes_hold g.header.symbols) h.0
  within Used (CheckedUse s x) h = tt
  within Used (Forward s) h = tt
  within Used (Bailout m) h = tt
  within External (Module m) h = tt
  within External (Statement m i) h = tt
  within External (Use s x) h = external_under (8 * bytes_for g.header.symbols) s.0 x.bits (bytes_hold g.header.symbols) h.0
  within External (CheckedUse s x) h = tt
  within External (Forward s) h = tt
  within External (Bailout m) h = tt
  within Json (Module m) h = tt
  within Json (Statement m i) h = tt
  within Json (Use s x) h = json_under (8 * bytes_for g.header.symbols) s.0 x.bits (bytes_hold g.header.symbols) h.0
  within Json (CheckedUse s x) h = tt
  within Json (Forward s) h = tt
  within Json (Bailout m) h = tt
  within NamespaceReason (Module m) h = under_only (8 * g.header.modules) (8 * m.0) (dev_namespace g m.0) (omega (arith, h.0))
  within NamespaceReason (Statement m i) h = tt
  within NamespaceReason (Use s x) h = reason_under s.0 x.bits h.0
  within NamespaceReason (CheckedUse s x) h = tt
  within NamespaceReason (Forward s) h = tt
  within NamespaceReason (Bailout m) h = tt

  -- the lines show nothing behind the row
  shown_inside : (row : Row) (lines : List ℕ) (count j : ℕ) → ((k : ℕ) → k < count → Good g (line_at lines k).fact) → 8 * row_bytes g row ≤ j
      → shown g row (lines_of count lines) j ≡ false
  unfolding shown lines_of
  shown_inside row lines count j good l =
      none_passes (λ x. elem j (shows g row x.fact)) (line_at lines) 0 count
      (λ k m n. under_not (8 * row_bytes g row) j (shows g row (line_at lines k).fact) (within row (line_at lines k).fact (good k (omega (arith, n)))) l)

  -- what the lines leave of a cleared row
  pub shown_over : (row : Row) (lines : List ℕ) (count : ℕ) (lent bare bits : List ℕ) → bare ≡ shown_row g row [] lent → ((k : ℕ) → k < count → Good g (line_at lines k).fact)
      → row_bytes g row ≤ length lent → length bits ≡ length lent → ((i : ℕ) → get_or bits i 0 < 256) → ((i : ℕ) → get_or lent i 0 < 256)
      → ShowsLines g row true (lines_of count lines) bare bits → bits ≡ shown_row g row (lines_of count lines) lent
  unfolding shown_row ShowsLines
  shown_over row lines count lent bare bits e good long same small small-lent is = row_is (shown g row (lines_of count lines)) (row_bytes g row) lent long bits same small small-lent front behind
    where
      or_unset : (a b : Bool) → b ≡ false → (a || b) ≡ a
      or_unset true b e = refl
      or_unset false b e = e

      bare-bit : (j : ℕ) → bit_at bare j ≡ bit_at (cleared (row_bytes g row) lent) j
      bare-bit j = ap (λ (r : List ℕ). bit_at r j) (e ∙ sym (cleared_shown g row lent))

      front : (j : ℕ) → j < 8 * row_bytes g row → bit_at bits j ≡ shown g row (lines_of count lines) j
      front j l = is j ∙ or_unset (shown g row (lines_of count lines) j) (bit_at bare j) (bare-bit j ∙ cleared_unset (row_bytes g row) lent j l)

      behind : (j : ℕ) → 8 * row_bytes g row ≤ j → bit_at bits j ≡ bit_at lent j
      behind j l =
          is j ∙ ap (λ (b : Bool). b || bit_at bare j) (shown_inside row lines count j good l) ∙ bare-bit j ∙ cleared_kept (row_bytes g row) lent j l
