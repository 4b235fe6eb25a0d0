use mathlib.Core.Path.{ap}
use native.Mathlib.Omega.{arith}
use Rattle.graph_access.specs.graph_format_crate.declared.Header.{Header}
use Rattle.listing.proofs.Pieces.{emits_both, emits_as, emits_all}
use Rattle.listing.proofs.Whole.{modules_fit, statements_fit, symbols-fit, dead_fit, entries-few, entries_are, listing_is}
use Rattle.listing.proofs.form.Goals as goal

pub put_entries-at-requires : goal.put_entries-at-requires
put_entries-at-requires c =
    let s = c.requires in
    let e = c.header_of-h.ensures in record { loaded = s.loaded; at_bound = (omega (arith, c.put_line-at.ensures.1), s.fits.entries_long, omega (arith, s.loaded.few_entries, entries-few _ _ _ e s.fits), entries_are _ _ _ e s.fits) }

pub put_modules-at-requires : goal.put_modules-at-requires
put_modules-at-requires c =
    let s = c.requires in
    let e = c.header_of-h.ensures in
    let f = modules_fit _ _ _ e s.fits in record { loaded = s.loaded; at_bound = (omega (arith, c.put_line-at.ensures.1, c.put_entries-at.ensures.1), ap (λ (h : Header). h.modules) e, f.0, f.1, f.2, f.3) }

pub put_statements-at-requires : goal.put_statements-at-requires
put_statements-at-requires c =
    let s = c.requires in
    let e = c.header_of-h.ensures in record { loaded = s.loaded; at_bound = (omega (arith, c.put_line-at.ensures.1, c.put_entries-at.ensures.1, c.put_modules-at.ensures.1), ap (λ (h : Header). h.modules) e, statements_fit _ _ _ e s.fits) }

pub put_symbols-at-requires : goal.put_symbols-at-requires
put_symbols-at-requires c =
    let s = c.requires in
    let e = c.header_of-h.ensures in
    (omega (arith, c.put_line-at.ensures.1, c.put_entries-at.ensures.1, c.put_modules-at.ensures.1, c.put_statements-at.ensures.1), omega arith, (symbols-fit _ _ _ e s.fits).0, omega (arith, s.loaded.few_symbols, ap (λ (h : Header). h.symbols) e))

pub put_symbols-at-requires-2 : goal.put_symbols-at-requires-2
put_symbols-at-requires-2 c =
    let s = c.requires in
    let e = c.header_of-h.ensures in (
      omega (arith, c.put_line-at.ensures.1, c.put_entries-at.ensures.1, c.put_modules-at.ensures.1, c.put_statements-at.ensures.1, c.put_symbols-at.ensures.1),
      omega arith,
      (symbols-fit _ _ _ e s.fits).1,
      omega (arith, s.loaded.few_symbols, ap (λ (h : Header). h.symbols) e),
    )

pub put_json-at-requires : goal.put_json-at-requires
put_json-at-requires c =
    let s = c.requires in
    let e = c.header_of-h.ensures in record {
      loaded = s.loaded;
      at_bound = (
        omega (arith, c.put_line-at.ensures.1, c.put_entries-at.ensures.1, c.put_modules-at.ensures.1, c.put_statements-at.ensures.1, c.put_symbols-at.ensures.1, c.put_symbols-at-2.ensures.1),
        ap (λ (h : Header). h.modules) e,
        ap (λ (h : Header). h.symbols) e,
        (symbols-fit _ _ _ e s.fits).2,
      );
    }

pub put_dead-requires : goal.put_dead-requires
put_dead-requires c =
    let s = c.requires in
    let e = c.header_of-h.ensures in record {
      loaded = s.loaded;
      at_bound = (
        omega (arith, c.put_line-at.ensures.1, c.put_entries-at.ensures.1, c.put_modules-at.ensures.1, c.put_statements-at.ensures.1, c.put_symbols-at.ensures.1, c.put_symbols-at-2.ensures.1, c.put_json-at.ensures.1),
        ap (λ (h : Header). h.modules) e,
        dead_fit _ _ _ e s.fits,
      );
    }

pub returns : goal.returns
returns c = emits_all
    (emits_as (listing_is _ _ _ c.header_of-h.ensures)
    (emits_both c.put_line-at.ensures.0
    (emits_both c.put_entries-at.ensures.0
    (emits_both c.put_modules-at.ensures.0
    (emits_both c.put_statements-at.ensures.0
    (emits_both c.put_symbols-at.ensures.0 (emits_both c.put_symbols-at-2.ensures.0 (emits_both c.put_json-at.ensures.0 c.put_dead.ensures.0))))))))
