-- Where the bits of a module begin, as the loops over modules go.
use Prim.Native.Nat.{ℕ, zero, suc, ◌+◌, ◌*◌, ◌<◌, ◌≤◌}
use mathlib.Core.Path.{◌≡◌, refl, ap, ◌∙◌, sym}
use mathlib.Core.List.{List, [], ◌∷◌}
use native.Mathlib.Omega.{arith}
use lib.ListN.{length, get_or}
use Rattle.bit_row.specs.Row.{bytes_for}
use Rattle.bit_row.proofs.Size.{bytes_hold}
use Rattle.graph_access.specs.rows_crate.Walk.{Item, no_item}
use Rattle.graph_access.specs.graph_crate.Check.{Graph}
use Rattle.graph_access.specs.Names.{import_records}
use Rattle.graph_access.specs.Words.{module_of, statement_list}
use Rattle.answer_rows.specs.Shown.{bytes_before}
use Rattle.answer_rows.proofs.FirstBytes.{before_step, before_mono}
use Rattle.dynamic_entries.specs.Alive.{records_before}

-- import records of no modules
none_before : (m : ℕ) → records_before [] m ≡ 0
unfolding records_before
none_before zero = refl
none_before (suc m) = refl

none_at : (m : ℕ) → length (import_records (get_or {A = Item} [] m no_item)) ≡ 0
unfolding import_records
none_at zero = refl
none_at (suc m) = refl

pub records_step : (ms : List Item) (m : ℕ) → records_before ms (m + 1) ≡ records_before ms m + length (import_records (get_or ms m no_item))
unfolding records_before
records_step [] m = omega (arith, none_before (m + 1), none_before m, none_at m)
records_step (x ∷ ms) zero = omega arith
records_step (x ∷ ms) (suc m) =
    let n : suc m + 1 ≡ suc (m + 1) = omega arith in
    let e : records_before (x ∷ ms) (suc m + 1) ≡ length (import_records x) + records_before ms (m + 1) = ap (records_before (x ∷ ms)) n in
    omega (arith, e, records_step ms m)

pub records_mono : (ms : List Item) (m n : ℕ) → m ≤ n → records_before ms m ≤ records_before ms n
unfolding records_before
records_mono ms zero n l = omega arith
records_mono [] (suc m) n l = omega arith
records_mono (x ∷ ms) (suc m) zero l = absurd (omega arith)
records_mono (x ∷ ms) (suc m) (suc n) l = omega (arith, records_mono ms m n (omega arith))

module _ (g : Graph) (m size : ℕ) where
  -- a module's statements are in the row, and the next module's begin behind them
  pub statements_inside : (count room : ℕ) → m < count → size ≡ length (statement_list g m) → bytes_before g.statements count ≤ room → 8 * bytes_before g.statements m + size ≤ 8 * room
  unfolding statement_list
  statements_inside count room few e l =
      omega (arith, e, l, before_step g.statements m, before_mono g.statements (m + 1) count (omega arith), bytes_hold (length (get_or g.statements m [])))

  pub statements_next : size ≡ length (statement_list g m) → bytes_before g.statements (m + 1) ≡ bytes_before g.statements m + bytes_for size
  unfolding statement_list
  statements_next e = before_step g.statements m ∙ ap (λ n. bytes_before g.statements m + bytes_for n) (sym e)

  -- and so its import records
  pub records_inside : (count room : ℕ) → m < count → size ≡ length (import_records (module_of g m)) → records_before g.modules count ≤ room → records_before g.modules m + size ≤ room
  unfolding module_of
  records_inside count room few e l = omega (arith, e, l, records_step g.modules m, records_mono g.modules (m + 1) count (omega arith))

  pub records_next : size ≡ length (import_records (module_of g m)) → records_before g.modules (m + 1) ≡ records_before g.modules m + size
  unfolding module_of
  records_next e = records_step g.modules m ∙ ap (λ n. records_before g.modules m + n) (sym e)
