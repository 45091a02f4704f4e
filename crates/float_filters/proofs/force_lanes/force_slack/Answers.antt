use Rattle.float_filters.proofs.MarginLaws.{slack_is}
use Rattle.float_filters.proofs.force_lanes.force_slack.Goals as goal

pub returns : goal.returns
returns c limit s le some most near = slack_is limit s c.args.reach le some most near
