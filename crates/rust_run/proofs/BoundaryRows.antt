-- Bits of rows after an answer: what facts show them, which module or statement they stand for, and bits of bytes with a rest behind them.
use Rattle.std.proofs.Common.{◌≡◌, ℕ, ◌+◌, ◌*◌, ◌/◌, ◌%◌, ◌<◌, Bool, true, eqb, ◌↔◌, List, [], ◌∷◌, ◌++◌, length, sym, refl, ap, ◌∙◌, subst, inl, inr, arith}
use mathlib.Core.Bool.{false≢true}
use native.Mathlib.Decide.{dec_lt}
use lib.ListN.{get_or-append}
use Rattle.bit_row.specs.Row.{bit_of, bit_at}
use Rattle.determine_side_effects.specs.graph_crate.Check.{Graph}
use Rattle.determine_side_effects.specs.graph_access_crate.Words.{statement_list}
use Rattle.determine_side_effects.specs.facts_crate.declared.Fact.{Fact}
use Rattle.determine_side_effects.specs.facts_crate.declared.Fact.TheVariants.{Module, Statement, Use, CheckedUse, Forward, Bailout}
use Rattle.determine_side_effects.specs.facts_crate.Facts.{module_fact, statement_fact, Good}
use Rattle.keep_record.specs.declared.Line.{Line}
use Rattle.keep_record.specs.Lines.{elem}
use Rattle.answer_rows.specs.declared.Row.{Row}
use Rattle.answer_rows.specs.declared.Row.TheVariants.{Modules, Statements}
use Rattle.answer_rows.specs.Shown.{bytes_before, shows, row_bytes, bytes_of, shown_row}
use Rattle.answer_rows.proofs.FirstBytes.{statement_inside}
use Rattle.closed_choices.specs.Choice.{Choice, HasLine}
use Rattle.closed_choices.proofs.Showing.{bytes_long, bit_of_bytes, rows_show}
use Rattle.rust_values.specs.Values.{In}
use Rattle.rust_values.proofs.Members.{elem_in, in_elem}
use Rattle.rust_engine.specs.EntryPoints.{ShownBy}

-- one after the other
pub both_ways : {A B C : Type 0} → A ↔ B → C ↔ B → A ↔ C
both_ways p q = (λ a. q.1 (p.0 a), λ c. p.1 (q.0 c))

pub turned : {A B : Type 0} → A ↔ B → B ↔ A
turned p = (p.1, p.0)

-- a bit is set exactly if a fact of the lines shows it
pub bit_shown : (g : Graph) (row : Row) (lines : List Line) (lent : List ℕ) (j : ℕ) → j < 8 * row_bytes g row
    → (bit_at (shown_row g row lines lent) j ≡ true) ↔ ShownBy g (HasLine lines) row j
bit_shown g row lines lent j l = let r = rows_show g row lines lent in (λ e. r.set-by j l e, λ q. r.sets j q.0 l q.1 q.2)

-- Modules and statements -----------------------------------------------------------------------------------------------------------------

one_of : {j k : ℕ} → In j (k ∷ []) → j ≡ k
one_of (inl e) = e
one_of (inr h) = absurd h

module _ (g : Graph) (C : Choice) where
  its_module : (m : ℕ) (f : Fact) → C f → elem m (shows g Modules f) ≡ true → C (module_fact m)
  unfolding shows elem
  its_module m (Module x) c e = subst (λ n. C (module_fact n)) (sym (one_of (elem_in m (x.0 ∷ []) e))) c
  its_module m (Statement x i) c e = absurd (false≢true e)
  its_module m (Use s x) c e = absurd (false≢true e)
  its_module m (CheckedUse s x) c e = absurd (false≢true e)
  its_module m (Forward s) c e = absurd (false≢true e)
  its_module m (Bailout x) c e = absurd (false≢true e)

  pub module_shown : (m : ℕ) → ShownBy g C Modules m ↔ C (module_fact m)
  unfolding shows
  module_shown m = (λ q. its_module m q.0 q.1 q.2, λ c. (module_fact m, c, in_elem m (m ∷ []) (inl refl)))

  -- a statement's bit tells its module and its place
  abbrev bit : ℕ → ℕ → ℕ
  bit m i = 8 * bytes_before g.statements m + i

  same_statement : (m n i k : ℕ) → i < length (statement_list g m) → k < length (statement_list g n) → bit m i ≡ bit n k → C (statement_fact n k) → C (statement_fact m i)
  unfolding statement_list
  same_statement m n i k a b e c = go (dec_lt m n) (dec_lt n m)
    where
      together : m ≡ n → i ≡ k → C (statement_fact m i)
      together p q = subst (λ x. C (statement_fact x i)) (sym p) (subst (λ x. C (statement_fact n x)) (sym q) c)

      go : Dec (m < n) → Dec (n < m) → C (statement_fact m i)
      go (yes p) q = absurd (omega (arith, statement_inside g.statements m n i p a, e))
      go (no p) (yes q) = absurd (omega (arith, statement_inside g.statements n m k q b, e))
      go (no p) (no q) = let s : m ≡ n = omega arith in together s (omega (arith, e, ap (bytes_before g.statements) s))

  module _ (good : (f : Fact) → C f → Good g f) (m i : ℕ) (inside : i < length (statement_list g m)) where
    its-statement : (f : Fact) → C f → elem (bit m i) (shows g Statements f) ≡ true → C (statement_fact m i)
    unfolding shows elem
    its-statement (Module x) c e = absurd (false≢true e)
    its-statement (Statement x k) c e =
        same_statement m x.0 i k.0 inside (good (Statement x k) c).1 (one_of (elem_in (bit m i) (bit x.0 k.0 ∷ []) e)) c
    its-statement (Use s x) c e = absurd (false≢true e)
    its-statement (CheckedUse s x) c e = absurd (false≢true e)
    its-statement (Forward s) c e = absurd (false≢true e)
    its-statement (Bailout x) c e = absurd (false≢true e)

    pub statement-shown : ShownBy g C Statements (bit m i) ↔ C (statement_fact m i)
    unfolding shows
    statement-shown = (λ q. its-statement q.0 q.1 q.2, λ c. (statement_fact m i, c, in_elem (bit m i) (bit m i ∷ []) (inl refl)))
