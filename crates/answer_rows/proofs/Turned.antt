-- Rows after a fact and after lines: they show what these show, and what they showed before.
use Prim.Native.Nat.{ℕ, ◌+◌, ◌*◌, ◌<◌, ◌≤◌}
use mathlib.Core.Path.{◌≡◌, refl, ap, ◌∙◌, sym}
use mathlib.Core.Bool.{Bool, true, false, ◌&&◌, ◌||◌}
use mathlib.Core.List.{List, [], ◌∷◌, ◌++◌}
use native.Mathlib.Omega.{arith}
use lib.Dec.{eqb}
use lib.ListN.{length, drop, drop_of_length-le}
use lib.Seq.{drop-append-le}
use Rattle.bit_row.specs.Row.{bit_at}
use Rattle.determine_side_effects.specs.graph_crate.Check.{Graph}
use Rattle.determine_side_effects.specs.graph_access_crate.Words.{some}
use Rattle.determine_side_effects.specs.facts_crate.declared.Fact.{Fact}
use Rattle.determine_side_effects.specs.facts_crate.declared.Fact.TheVariants.{Module, Statement, Use, CheckedUse, Forward, Bailout}
use Rattle.keep_record.specs.declared.Line.{Line}
use Rattle.keep_record.specs.Lines.{elem}
use Rattle.keep_record.specs.Held.{line_at, lines_of}
use Rattle.keep_record.proofs.Rows.{lines-length, lines_more}
use Rattle.answer_rows.specs.declared.Row.{Row}
use Rattle.answer_rows.specs.declared.Row.TheVariants.{Modules, Statements, Used, External, Json, NamespaceReason}
use Rattle.answer_rows.specs.Shown.{bytes_before, shows, shown}
use Rattle.answer_rows.specs.Together.{SixRows, six_rows, lengths_of, Shows, ShowsLines, FactShown, LinesShown}
use Rattle.answer_rows.proofs.Tabulated.{some-append, some_one}
use Rattle.answer_rows.proofs.Listed.{set-none, set_same, set-one}
use Rattle.determine_side_effects.specs.index_crate.declared.SymbolIdx.{SymbolIdx}
use Rattle.determine_side_effects.specs.facts_crate.declared.Reason.{Reason}
use Rattle.determine_side_effects.specs.index_crate.declared.ModuleIdx.{ModuleIdx}
use Rattle.determine_side_effects.specs.index_crate.declared.StmtIdx.{StmtIdx}

every_row : (P : Row → Type 0) → P Modules → P Statements → P Used → P External → P Json → P NamespaceReason → (row : Row) → P row
every_row P m s u e j r Modules = m
every_row P m s u e j r Statements = s
every_row P m s u e j r Used = u
every_row P m s u e j r External = e
every_row P m s u e j r Json = j
every_row P m s u e j r NamespaceReason = r

-- facts that show nothing in any row
module _ (g : Graph) (row : Row) where
  pub checked_none : (s : SymbolIdx) (x : Reason) → shows g row (CheckedUse s x) ≡ []
  unfolding shows
  checked_none s x = every_row (λ r. shows g r (CheckedUse s x) ≡ []) refl refl refl refl refl refl row

  pub forward_none : (s : SymbolIdx) → shows g row (Forward s) ≡ []
  unfolding shows
  forward_none s = every_row (λ r. shows g r (Forward s) ≡ []) refl refl refl refl refl refl row

  pub bailout_none : (m : ModuleIdx) → shows g row (Bailout m) ≡ []
  unfolding shows
  bailout_none m = every_row (λ r. shows g r (Bailout m) ≡ []) refl refl refl refl refl refl row

-- a row after a fact
module _ (g : Graph) (row : Row) (f : Fact) (before : List ℕ) where
  pub shows_none : (b : Bool) → shows g row f ≡ [] → Shows g row b f before before
  unfolding Shows
  shows_none true e j = set-none j (shows g row f) (bit_at before j) e
  shows_none false e j = refl

  pub shows_not : (b : Bool) → b ≡ false → Shows g row b f before before
  unfolding Shows
  shows_not b e j = rw e

  module _ (after : List ℕ) where
    pub shows-if : (b : Bool) → b ≡ true → Shows g row true f before after → Shows g row b f before after
    shows-if b e p = rw e p

    pub shows-list : (list : List ℕ) → shows g row f ≡ list → ((j : ℕ) → bit_at after j ≡ (elem j list || bit_at before j)) → Shows g row true f before after
    unfolding Shows
    shows-list list e p j = set_same j (shows g row f) (bit_at before j) list (bit_at after j) e (p j)

    pub shows-one : (n m : ℕ) → shows g row f ≡ n ∷ [] → m ≡ n → ((j : ℕ) → bit_at after j ≡ (eqb j m || bit_at before j)) → Shows g row true f before after
    unfolding Shows
    shows-one n m e i p j = set-one j (shows g row f) (bit_at before j) n m (bit_at after j) e i (p j)

-- a row after lines
module _ (g : Graph) (row : Row) (b : Bool) where
  pub shows_no_lines : (before : List ℕ) → ShowsLines g row b [] before before
  unfolding ShowsLines shown some
  shows_no_lines before j = by_cases b
    where
      by_cases : (c : Bool) → bit_at before j ≡ ((c && false) || bit_at before j)
      by_cases true = refl
      by_cases false = refl

  module _ (xs : List Line) (before mid after : List ℕ) where
    both-shown : (c x y old : Bool) → ((c && y) || ((c && x) || old)) ≡ ((c && (x || y)) || old)
    both-shown true true true old = refl
    both-shown true true false old = refl
    both-shown true false y old = refl
    both-shown false x y old = refl

    pub shows_more : (ys : List Line) → ShowsLines g row b xs before mid → ShowsLines g row b ys mid after → ShowsLines g row b (xs ++ ys) before after
    unfolding ShowsLines shown
    shows_more ys p q j =
        q j ∙ ap (λ (o : Bool). (b && shown g row ys j) || o) (p j) ∙ both-shown b (shown g row xs j) (shown g row ys j) (bit_at before j)
        ∙ ap (λ (s : Bool). (b && s) || bit_at before j) (sym (some-append (λ l. elem j (shows g row l.fact)) xs ys))

    pub shows_then : (l : Line) (f : Fact) → f ≡ l.fact → ShowsLines g row b xs before mid → Shows g row b f mid after → ShowsLines g row b (xs ++ l ∷ []) before after
    unfolding ShowsLines Shows shown
    shows_then l f e p q =
        shows_more (l ∷ []) p
        (λ j. q j ∙ ap (λ (h : Fact). (b && elem j (shows g row h)) || bit_at mid j) e
        ∙ ap (λ (s : Bool). (b && s) || bit_at mid j) (sym (some_one (λ x. elem j (shows g row x.fact)) l)))

-- the six rows after a fact
module _ (g : Graph) (main : Bool) (f : Fact) (before : SixRows) where
  pub fact_none : (h : Fact) → f ≡ h → ((row : Row) → shows g row h ≡ []) → FactShown g main f before before
  fact_none h e none =
      rw e
      (record {
        modules_shown = shows_none g Modules h before.modules true (none Modules);
        statements_shown = shows_none g Statements h before.statements true (none Statements);
        used_shown = shows_none g Used h before.used true (none Used);
        external_shown = shows_none g External h before.external true (none External);
        json_shown = shows_none g Json h before.json main (none Json);
        reason_shown = shows_none g NamespaceReason h before.reason main (none NamespaceReason);
      })

  pub fact_module : (m : ModuleIdx) (modules reason : List ℕ) → f ≡ Module m
      → Shows g Modules true (Module m) before.modules modules × Shows g NamespaceReason main (Module m) before.reason reason
      → FactShown g main f before (six_rows modules before.statements before.used before.external before.json reason)
  unfolding shows
  fact_module m modules reason e p =
      rw e
      (record {
        modules_shown = p.0;
        statements_shown = shows_none g Statements (Module m) before.statements true refl;
        used_shown = shows_none g Used (Module m) before.used true refl;
        external_shown = shows_none g External (Module m) before.external true refl;
        json_shown = shows_none g Json (Module m) before.json main refl;
        reason_shown = p.1;
      })

  pub fact_statement : (m : ModuleIdx) (i : StmtIdx) (first : ℕ) (statements : List ℕ) → f ≡ Statement m i → first ≡ bytes_before g.statements m.0
      → ((j : ℕ) → bit_at statements j ≡ (eqb j (8 * first + i.0) || bit_at before.statements j))
      → FactShown g main f before (six_rows before.modules statements before.used before.external before.json before.reason)
  unfolding shows
  fact_statement m i first statements e b p =
      rw e
      (record {
        modules_shown = shows_none g Modules (Statement m i) before.modules true refl;
        statements_shown = shows-one g Statements (Statement m i) before.statements statements _ (8 * first + i.0) refl (ap (λ n. 8 * n + i.0) b) p;
        used_shown = shows_none g Used (Statement m i) before.used true refl;
        external_shown = shows_none g External (Statement m i) before.external true refl;
        json_shown = shows_none g Json (Statement m i) before.json main refl;
        reason_shown = shows_none g NamespaceReason (Statement m i) before.reason main refl;
      })

  pub fact_use : (s : SymbolIdx) (x : Reason) (used external json reason : List ℕ) → f ≡ Use s x
      → Shows g Used true (Use s x) before.used used × Shows g External true (Use s x) before.external external
      × Shows g Json main (Use s x) before.json json × Shows g NamespaceReason main (Use s x) before.reason reason
      → FactShown g main f before (six_rows before.modules before.statements used external json reason)
  unfolding shows
  fact_use s x used external json reason e p =
      rw e
      (record {
        modules_shown = shows_none g Modules (Use s x) before.modules true refl;
        statements_shown = shows_none g Statements (Use s x) before.statements true refl;
        used_shown = p.0;
        external_shown = p.1;
        json_shown = p.2;
        reason_shown = p.3;
      })

-- The loop over the lines: those before k are shown, and each row is as long as it was.
pub record Going (g : Graph) (main : Bool) (lines : List ℕ) (from to : ℕ) (before : SixRows) (now : SixRows) (k : ℕ) : Type 0 where
  pub same : lengths_of now ≡ lengths_of before
  pub above : from ≤ k
  pub below : k ≤ to
  pub so_far : LinesShown g main (drop from (lines_of k lines)) before now

module _ (g : Graph) (main : Bool) (lines : List ℕ) (from to : ℕ) (before : SixRows) where
  pub going_start : from ≤ to → Going g main lines from to before before from
  going_start l =
      let e : length (lines_of from lines) ≤ from = omega (arith, lines-length from lines) in
      record { same = refl; above = omega arith; below = l; so_far = rw (drop_of_length-le (lines_of from lines) e) none }
    where
      none : LinesShown g main [] before before
      none =
          record {
            modules_shown = shows_no_lines g Modules true before.modules;
            statements_shown = shows_no_lines g Statements true before.statements;
            used_shown = shows_no_lines g Used true before.used;
            external_shown = shows_no_lines g External true before.external;
            json_shown = shows_no_lines g Json main before.json;
            reason_shown = shows_no_lines g NamespaceReason main before.reason;
          }

  module _ (now : SixRows) (k : ℕ) (now-so : Going g main lines from to before now k) where
    pub going_step : (next : SixRows) (f : Fact) → k < to → f ≡ (line_at lines k).fact → lengths_of next ≡ lengths_of now → FactShown g main f now next
        → Going g main lines from to before next (k + 1)
    going_step next f l e same p =
        record {
          same = same ∙ now-so.same;
          above = omega (arith, now-so.above);
          below = omega (arith, l);
          so_far = rw more shown-more;
        }
      where
        xs : List Line
        xs = drop from (lines_of k lines)

        more : drop from (lines_of (k + 1) lines) ≡ xs ++ line_at lines k ∷ []
        more = ap (drop from) (lines_more k lines) ∙ drop-append-le from (lines_of k lines) (line_at lines k ∷ []) (omega (arith, lines-length k lines, now-so.above))

        shown-more : LinesShown g main (xs ++ line_at lines k ∷ []) before next
        shown-more =
            let q = now-so.so_far in
            record {
              modules_shown = shows_then g Modules true xs _ _ _ (line_at lines k) f e q.modules_shown p.modules_shown;
              statements_shown = shows_then g Statements true xs _ _ _ (line_at lines k) f e q.statements_shown p.statements_shown;
              used_shown = shows_then g Used true xs _ _ _ (line_at lines k) f e q.used_shown p.used_shown;
              external_shown = shows_then g External true xs _ _ _ (line_at lines k) f e q.external_shown p.external_shown;
              json_shown = shows_then g Json main xs _ _ _ (line_at lines k) f e q.json_shown p.json_shown;
              reason_shown = shows_then g NamespaceReason main xs _ _ _ (line_at lines k) f e q.reason_shown p.reason_shown;
            }

    pub going_end : to ≤ k → LinesShown g main (drop from (lines_of to lines)) before now
    going_end l = let e : k ≡ to = omega (arith, now-so.below) in rw e at now-so.so_far
