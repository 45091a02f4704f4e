use Rattle.std.proofs.Common.{◌≡◌, ◌∙◌, ap, arith, get_or, length, sym, map}
use Rattle.std.proofs.lemmas.List.{length-map}
use Rattle.job.specs.Views.{global_value, job_value}
use Rattle.line_text.proofs.Items.{length-alike}
use Rattle.potential.specs.Tables.{global_values, numbers_of, table_of}
use Rattle.potential.proofs.EnergyLaws.{length-globals, rows_of_types, table_alike, whole_rows}
use Rattle.potential.proofs.tables.type_table.Goals as goal

pub new-requires-clause-whole : goal.new-requires-clause-whole
new-requires-clause-whole g c =
    let job = c.args.job.now in
    let rows = (rw c.deref.ensures.value at c.in_ok-rows.ensures.value) ∙ sym (rows_of_types job.types.items) in
    let count : length job.parameters.items ≡ c.len.result = sym (c.len.ensures ∙ job.parameters.ok.0) in
    whole_rows (λ row. row.items) (λ t. numbers_of t.values.items) c.in_ok-rows.rows.items job.types.items c.len.result rows
    (λ k d h. length-map (get_or job.types.items k d).values.items (λ c. c.value) ∙ job.whole k d h ∙ count)

pub new-requires-clause-few_types : goal.new-requires-clause-few_types
new-requires-clause-few_types g c =
    let job = c.args.job.now in
    let rows = (rw c.deref.ensures.value at c.in_ok-rows.ensures.value) ∙ sym (rows_of_types job.types.items) in
    let same = length-alike (λ row. row.items) (λ t. numbers_of t.values.items) c.in_ok-rows.rows.items job.types.items rows in
    let few = job.few_types in
    omega arith

pub new-requires-clause-few_globals : goal.new-requires-clause-few_globals
new-requires-clause-few_globals g c =
    let job = c.args.job.now in
    let values = ap length c.in_ok-globals.ensures.value ∙ ap (λ gs. length (global_values (map global_value gs))) c.deref-2.ensures.value ∙ length-globals job.globals.items in
    let few = job.few_globals in
    omega arith

pub returns : goal.returns
returns g c =
    let job = c.args.job.now in
    let count : c.len.result ≡ length job.parameters.items = c.len.ensures ∙ job.parameters.ok.0 in
    let parameters = c.new.ensures.parameters ∙ count ∙ sym (length-map job.parameters.items (λ p. p.items)) in
    let rows = c.new.ensures.rows ∙ (rw c.deref.ensures.value at c.in_ok-rows.ensures.value) in
    let globals = c.new.ensures.globals ∙ (rw c.deref-2.ensures.value at c.in_ok-globals.ensures.value) in
    record { value = table_alike c.new.result (table_of (job_value job)) c.new.ensures.frac parameters rows globals }
