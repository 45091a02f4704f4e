-- the text of a file that can't be read has its path, and the text of a missing type the first line of its name
use Rattle.std.proofs.Common.{inr, refl}
use Rattle.std.proofs.lemmas.Result.{IfOk-weaker}
use Rattle.cli.specs.Command.{cannot_read}
use Rattle.cli.specs.Reports.{no_such_type}
use Rattle.cli.proofs.Printing.{type_line}
use Rattle.cli.proofs.execution.text_of.Goals as goal

pub returns-in-CannotRead : goal.returns-in-CannotRead
returns-in-CannotRead g c =
    let path = c.in-CannotRead.path.now in
    rw c.in-CannotRead.is (IfOk-weaker c.unread_line.result _ _ (λ _ e. (cannot_read path, inr (path, refl), e)) c.unread_line.ensures)

pub returns-in-NoSuchType : goal.returns-in-NoSuchType
returns-in-NoSuchType g c =
    let first = c.first_line.result.now in
    rw c.in-NoSuchType.is (IfOk-weaker c.untyped_line.result _ _
    (λ _ e. (no_such_type first, type_line c.in-NoSuchType.name.now first c.first_line.ensures, e)) c.untyped_line.ensures)
