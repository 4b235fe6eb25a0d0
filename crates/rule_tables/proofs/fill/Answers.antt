-- what is filled after each call
use native.Mathlib.Omega.{arith}
use Rattle.determine_side_effects.proofs.tables_crate.Sections.{laid_less}
use Rattle.rule_tables.proofs.Filling.{Filled, filled_none, filled_verdicts, filled_demands, filled_keys, filled_namespaces, filled_all}
use Rattle.rule_tables.proofs.fill.Goals as goal

pub last_verdicts-requires : goal.last_verdicts-requires
last_verdicts-requires c = (record { loaded = c.requires.loaded; laid = laid_less (omega arith) c.requires.laid })

pub fill_on_demand-requires : goal.fill_on_demand-requires
fill_on_demand-requires c =
    let verdicts : Filled 6 c.args.numbers.now c.last_verdicts.new.tables = filled_verdicts _ _ _ (filled_none _ _ c.requires.loaded c.requires.laid) c.last_verdicts.ensures in
    let f = verdicts in record { loaded = (f.loaded, f.settled (omega arith)); laid = f.laid }

pub compute_body_demand_keys-requires : goal.compute_body_demand_keys-requires
compute_body_demand_keys-requires c =
    let verdicts : Filled 6 c.args.numbers.now c.last_verdicts.new.tables = filled_verdicts _ _ _ (filled_none _ _ c.requires.loaded c.requires.laid) c.last_verdicts.ensures in
    let demands : Filled 7 c.args.numbers.now c.fill_on_demand.new.tables = filled_demands _ _ _ verdicts c.fill_on_demand.ensures in
    let f = demands in (f.loaded, f.demands (omega arith))

pub fill_namespaces-requires : goal.fill_namespaces-requires
fill_namespaces-requires c =
    let verdicts : Filled 6 c.args.numbers.now c.last_verdicts.new.tables = filled_verdicts _ _ _ (filled_none _ _ c.requires.loaded c.requires.laid) c.last_verdicts.ensures in
    let demands : Filled 7 c.args.numbers.now c.fill_on_demand.new.tables = filled_demands _ _ _ verdicts c.fill_on_demand.ensures in
    let keys : Filled 8 c.args.numbers.now c.compute_body_demand_keys.new.tables = filled_keys _ _ _ demands c.compute_body_demand_keys.ensures in
    let f = keys in record { loaded = f.loaded; laid = f.laid }

pub fill_first_bytes-requires : goal.fill_first_bytes-requires
fill_first_bytes-requires c =
    let verdicts : Filled 6 c.args.numbers.now c.last_verdicts.new.tables = filled_verdicts _ _ _ (filled_none _ _ c.requires.loaded c.requires.laid) c.last_verdicts.ensures in
    let demands : Filled 7 c.args.numbers.now c.fill_on_demand.new.tables = filled_demands _ _ _ verdicts c.fill_on_demand.ensures in
    let keys : Filled 8 c.args.numbers.now c.compute_body_demand_keys.new.tables = filled_keys _ _ _ demands c.compute_body_demand_keys.ensures in
    let namespaces : Filled 9 c.args.numbers.now c.fill_namespaces.new.tables = filled_namespaces _ _ _ keys c.fill_namespaces.ensures in
    let f = namespaces in record { loaded = f.loaded; laid = f.laid }

pub returns : goal.returns
returns c =
    let verdicts : Filled 6 c.args.numbers.now c.last_verdicts.new.tables = filled_verdicts _ _ _ (filled_none _ _ c.requires.loaded c.requires.laid) c.last_verdicts.ensures in
    let demands : Filled 7 c.args.numbers.now c.fill_on_demand.new.tables = filled_demands _ _ _ verdicts c.fill_on_demand.ensures in
    let keys : Filled 8 c.args.numbers.now c.compute_body_demand_keys.new.tables = filled_keys _ _ _ demands c.compute_body_demand_keys.ensures in
    let namespaces : Filled 9 c.args.numbers.now c.fill_namespaces.new.tables = filled_namespaces _ _ _ keys c.fill_namespaces.ensures in
    filled_all _ _ _ namespaces c.fill_first_bytes.ensures
