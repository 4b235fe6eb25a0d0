-- The sections that were filled before stay, where only words behind them are written.
use Prim.Native.Nat.{ℕ, ◌<◌, ◌≤◌}
use mathlib.Core.Path.{◌≡◌, ◌∙◌}
use mathlib.Core.List.{List}
use native.Mathlib.Omega.{arith}
use Rattle.determine_side_effects.specs.tables_crate.Layout.{start_of, verdicts_in, on_demand_in, bodies_in, namespaces_in, first_bytes_in, Laid, Kept, all_sections}
use Rattle.determine_side_effects.proofs.tables_crate.Sections.{laid_less, laid_kept, section_kept}
use Rattle.determine_side_effects.specs.graph_tables_crate.Tables.{header_in}
use Rattle.determine_side_effects.specs.graph_crate.Check.{graph_in}
use Rattle.determine_side_effects.specs.graph_crate.Loaded.{Loaded}
use Rattle.determine_side_effects.proofs.graph_crate.Kept.{loaded_kept}
use Rattle.determine_side_effects.specs.Effects.{last_verdicts}
use Rattle.determine_side_effects.specs.Tabled.{Settled}
use Rattle.on_demand.specs.Tabled.{DemandTable, KeyTable, Demands, Keyed}
use Rattle.linking_metadata.specs.Tabled.{NamespaceTable, Named}
use Rattle.keep_rules.specs.Prepared.{Prepared}
use Rattle.answer_rows.specs.Tabled.{FirstByteTable, FirstBytes}

-- section j and those behind it are written
module _ {numbers xs ys : List ℕ} (t : Laid (header_in numbers) all_sections xs) (j : ℕ) (b : j ≤ 10) (q : Kept (start_of (header_in numbers) j) xs ys) where
  settled_kept : 5 < j → Settled numbers xs → Settled numbers ys
  settled_kept l s = record { laid = laid_less (omega arith) (laid_kept t j b q); are_last = section_kept t j b q 5 l ∙ s.are_last }

  demands_kept : 6 < j → Demands numbers xs → Demands numbers ys
  demands_kept l s = record { laid = laid_kept t j b q; of_demand = rw (section_kept t j b q 6 l) s.of_demand }

  keyed_kept : 7 < j → Keyed numbers xs → Keyed numbers ys
  keyed_kept l s = record { laid = laid_kept t j b q; of_keys = rw (section_kept t j b q 7 l) s.of_keys }

  named_kept : 8 < j → Named numbers xs → Named numbers ys
  named_kept l s =
      record {
        loaded = loaded_kept s.loaded j (omega (arith, l)) (laid_less b t) q;
        laid = laid_kept t j b q;
        of_namespaces = rw (section_kept t j b q 8 l) s.of_namespaces;
      }

-- the sections in front of section n are filled
pub record Filled (n : ℕ) (numbers tables : List ℕ) : Type 0 where
  pub loaded : Loaded numbers tables
  pub laid : Laid (header_in numbers) all_sections tables
  pub settled : 5 < n → Settled numbers tables
  pub demands : 6 < n → Demands numbers tables
  pub keyed : 7 < n → Keyed numbers tables
  pub named : 8 < n → Named numbers tables

module _ (numbers xs ys : List ℕ) where
  abbrev Behind : ℕ → Type 0
  Behind n = Kept (start_of (header_in numbers) n) xs ys

  filled_kept : (n : ℕ) → 5 ≤ n → n ≤ 10 → Filled n numbers xs → Behind n → Filled n numbers ys
  filled_kept n l b f q =
      record {
        loaded = loaded_kept f.loaded n l (laid_less b f.laid) q;
        laid = laid_kept f.laid n b q;
        settled = λ m. settled_kept f.laid n b q m (f.settled m);
        demands = λ m. demands_kept f.laid n b q m (f.demands m);
        keyed = λ m. keyed_kept f.laid n b q m (f.keyed m);
        named = λ m. named_kept f.laid n b q m (f.named m);
      }

  pub filled_verdicts : Filled 5 numbers xs → (verdicts_in ys ≡ last_verdicts (graph_in numbers)) × Behind 5 → Filled 6 numbers ys
  filled_verdicts f e =
      let k = filled_kept 5 (omega arith) (omega arith) f e.1 in
      record {
        loaded = k.loaded;
        laid = k.laid;
        settled = λ m. record { laid = laid_less (omega arith) k.laid; are_last = e.0 };
        demands = λ m. absurd (omega (arith, m));
        keyed = λ m. absurd (omega (arith, m));
        named = λ m. absurd (omega (arith, m));
      }

  pub filled_demands : Filled 6 numbers xs → DemandTable (graph_in numbers) (on_demand_in ys) × Behind 6 → Filled 7 numbers ys
  filled_demands f e =
      let k = filled_kept 6 (omega arith) (omega arith) f e.1 in
      record {
        loaded = k.loaded;
        laid = k.laid;
        settled = λ m. k.settled (omega arith);
        demands = λ m. record { laid = k.laid; of_demand = e.0 };
        keyed = λ m. absurd (omega (arith, m));
        named = λ m. absurd (omega (arith, m));
      }

  pub filled_keys : Filled 7 numbers xs → KeyTable (graph_in numbers) (bodies_in ys) × Behind 7 → Filled 8 numbers ys
  filled_keys f e =
      let k = filled_kept 7 (omega arith) (omega arith) f e.1 in
      record {
        loaded = k.loaded;
        laid = k.laid;
        settled = λ m. k.settled (omega arith);
        demands = λ m. k.demands (omega arith);
        keyed = λ m. record { laid = k.laid; of_keys = e.0 };
        named = λ m. absurd (omega (arith, m));
      }

  pub filled_namespaces : Filled 8 numbers xs → NamespaceTable (graph_in numbers) (namespaces_in ys) × Behind 8 → Filled 9 numbers ys
  filled_namespaces f e =
      let k = filled_kept 8 (omega arith) (omega arith) f e.1 in
      record {
        loaded = k.loaded;
        laid = k.laid;
        settled = λ m. k.settled (omega arith);
        demands = λ m. k.demands (omega arith);
        keyed = λ m. k.keyed (omega arith);
        named = λ m. record { loaded = k.loaded; laid = k.laid; of_namespaces = e.0 };
      }

  pub filled_all : Filled 9 numbers xs → FirstByteTable (graph_in numbers) (first_bytes_in ys) × Behind 9 → Prepared numbers ys × FirstBytes numbers ys
  filled_all f e =
      let k = filled_kept 9 (omega arith) (omega arith) f e.1 in (
        record {
          loaded = k.loaded;
          settled = k.settled (omega arith);
          demands = k.demands (omega arith);
          keyed = k.keyed (omega arith);
          named = k.named (omega arith);
        },
        record { laid = k.laid; of_bytes = e.0 },
      )

pub filled_none : (numbers tables : List ℕ) → Loaded numbers tables → Laid (header_in numbers) all_sections tables → Filled 5 numbers tables
filled_none numbers tables p t =
    record {
      loaded = p;
      laid = t;
      settled = λ m. absurd (omega (arith, m));
      demands = λ m. absurd (omega (arith, m));
      keyed = λ m. absurd (omega (arith, m));
      named = λ m. absurd (omega (arith, m));
    }
