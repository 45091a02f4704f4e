use Rattle.run_laws.proofs.TranslationLaws.{forces_translated, runs_translated, shifts_are_undone, states_translated, steps_drift, steps_translated, translated_are_safe}
use Rattle.run_laws.proofs.symmetries.translations.Goals as goal

pub returns : goal.returns
returns c = record {
  forces = forces_translated;
  steps = steps_translated;
  drift = steps_drift;
  states = states_translated;
  runs = runs_translated;
  safe = translated_are_safe;
  undone = shifts_are_undone;
}
