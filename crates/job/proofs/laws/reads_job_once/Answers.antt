use Rattle.job.proofs.OneResult.{job_reads_once}
use Rattle.job.proofs.laws.reads_job_once.Goals as goal

pub returns : goal.returns
returns c = job_reads_once
