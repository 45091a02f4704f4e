use Rattle.fixed.specs.Fractions.{bits_of}
use Rattle.energy_program.specs.Variables.{names_of}
use Rattle.expr.proofs.Parsing.{substituted_tree_gives, is_found, is_read, is_cause}
use Rattle.expr.proofs.energy.parse.Goals as goal

pub returns-clause-found : goal.returns-clause-found
returns-clause-found g c =
    let whole = substituted_tree_gives (bits_of c.args.frac) (names_of c.args.names.now) c.args.text.now c.read.result c.read.ensures.value in
    is_found (bits_of c.args.frac) (names_of c.args.names.now) c.args.text.now c.read.result whole

pub returns-clause-only : goal.returns-clause-only
returns-clause-only g c =
    let whole = substituted_tree_gives (bits_of c.args.frac) (names_of c.args.names.now) c.args.text.now c.read.result c.read.ensures.value in
    is_read (bits_of c.args.frac) (names_of c.args.names.now) c.args.text.now c.read.result whole

pub returns-clause-cause : goal.returns-clause-cause
returns-clause-cause g c =
    let whole = substituted_tree_gives (bits_of c.args.frac) (names_of c.args.names.now) c.args.text.now c.read.result c.read.ensures.value in
    is_cause (bits_of c.args.frac) (names_of c.args.names.now) c.args.text.now c.read.result whole

pub returns-clause-exact : goal.returns-clause-exact
returns-clause-exact g c = substituted_tree_gives (bits_of c.args.frac) (names_of c.args.names.now) c.args.text.now c.read.result c.read.ensures.value
