use Rattle.std.proofs.Common.{◌≡◌, ◌∙◌, ◌+◌, ◌*◌, ◌%◌, ◌^◌, ◌<◌, ℕ, [], ◌∷◌, ap, sym, subst, arith, slice_index, length}
use Rattle.std.proofs.Math.Nat.{mod-mod}
use Rattle.std.specs.Mem.Slots.{slots_items}
use Rattle.rounds.specs.Tiles.{tiles_of, total}
use Rattle.rounds.specs.Workers.{Each, HasStopped}
use Rattle.rounds.specs.Rule.{fresh_workers}
use Rattle.rounds.specs.Events.{IsRunning}
use Rattle.rounds.proofs.EndLemmas.{ends}
use Rattle.rounds.proofs.RunningLemmas.{opens}
use Rattle.rounds.proofs.WordLemmas.{words_told, zero_words}
use Rattle.rounds.proofs.pool.forces.Goals as goal

pub of_words-requires : goal.of_words-requires
of_words-requires g c =
    let atoms = c.from.result in
    let workers = c.from-2.result in
    let tiles = tiles_of (g.W.Work.plan c.of.result.value) in
    let zeros = zero_words c.as_slice.result.now c.in_ok-words.words.items c.args.atoms atoms c.as_slice.ensures.value (c.in_ok-words.ensures.items_if_clones_equal (λ y e. e)) c.from.ensures in
    subst (λ ws. IsRunning tiles atoms workers ws (fresh_workers workers ∷ [])) (sym zeros) (opens tiles atoms workers)

pub returns : goal.returns
returns g c =
    let key = c.in_ok-table.table.shared.key in
    let key_is = c.in_ok-table.ensures.5 in
    let plan = g.W.Work.plan in
    let work_is : key.work.value ≡ c.args.work.now = ap (λ k. k.work.value) key_is ∙ c.of.ensures in
    let atoms_is : key.atoms ≡ c.args.atoms = ap (λ k. k.atoms) key_is ∙ c.from.ensures in
    let workers_is : key.workers ≡ length c.args.scratches.now = omega (arith, ap (λ k. k.workers) key_is, c.from-2.ensures, c.requires.few) in
    let seat = c.run_all-seat.result in
    let last = c.close_with-closed.ensures.values.2 in
    let words = slots_items c.close_with-closed.result.words in
    let stopped : Each (HasStopped (tiles_of (plan key.work.value))) seat.me.0 = subst (λ w. Each (HasStopped (tiles_of (plan w))) seat.me.0) (sym work_is) c.run_all-seat.ensures.stopped in
    let all : length seat.me.0 ≡ key.workers = omega (arith, c.run_all-seat.ensures.count.1, workers_is, c.requires.few) in
    let same : (k : ℕ) → k < 3 * c.args.atoms → slice_index words (1 + k) % 2 ^ 64 ≡ total (tiles_of (plan c.args.work.now)) k % 2 ^ 64 = λ k lt.
    let sum : slice_index last.0.words (1 + k) ≡ total (tiles_of (plan key.work.value)) k % 2 ^ 64 =
    ends (tiles_of (plan key.work.value)) key.atoms key.workers last.0.words last.0.views seat.id seat.me.0 last.1.0.rule last.1.1 (omega (arith, c.requires.workers, workers_is)) all stopped k (omega arith) in
    ap (λ ws. slice_index ws (1 + k) % 2 ^ 64) (sym last.2) ∙ (ap (λ n. n % 2 ^ 64) sum ∙ (mod-mod (total (tiles_of (plan key.work.value)) k) (2 ^ 64) ∙ ap (λ w. total (tiles_of (plan w)) k % 2 ^ 64) work_is)) in
    record { totals = words_told (λ k. slice_index words (1 + k)) (total (tiles_of (plan c.args.work.now))) _ (3 * c.args.atoms) c.read_words-sums.result.items c.read_words-sums.ensures (omega arith) same }
