use Rattle.job.proofs.SomeResult.{job_reads_always}
use Rattle.job.proofs.laws.reads_job_always.Goals as goal

pub returns : goal.returns
returns c = job_reads_always
