-- What the code keeps of relations and jobs, seen as what it is made of.
use Rattle.mw_macro.specs.Described.{description_of}
use Rattle.mw_rel.specs.declared.job.Job.{Job as KeptJob}
use Rattle.mw_rel.specs.declared.relation.Relation.{Relation as KeptRelation}
use Rattle.mw_rel.specs.Job.{Job, job_with}
use Rattle.mw_rel.specs.Relation.{Relation, related}
use Rattle.mw_rel.specs.Seen.{boundaries_of}

-- a relation
abbrev pub relation_of : KeptRelation → Relation
relation_of r = related (boundaries_of r.boundaries.items) r.shape

-- a job
abbrev pub job_of : KeptJob → Job
job_of job = job_with job.board job.store.words (description_of job.machine) (relation_of job.relation)
