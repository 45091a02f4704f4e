-- The energy of a frame over its tiles is that over all pairs.
use Rattle.std.proofs.Common.{◌≡◌, ℕ, suc, ◌+◌, ◌*◌, ◌^◌, ◌<◌, ◌≤◌, List, [], ◌∷◌, ◌++◌, length, map, take, sum_by, ℤ, pos, ◌+ℤ◌, Option, Some, None, arith, refl, ap₂, sym, ◌∙◌, ◌≤ℤ◌, ◌<ℤ◌, option_map, slice_index, slice_index_or, unsigned_abs, unwrap_or, All, length-append, mul-le-mul_left}
use Rattle.std.proofs.lemmas.Int.{ints}
use Rattle.std.proofs.lemmas.List.Sums.{sum_by-cons}
use Rattle.std.proofs.lemmas.Option.{same_Some}
use Rattle.fixed.specs.Fractions.{bits_of}
use Rattle.energy_program.specs.Programs.{program_tree}
use Rattle.energy_program.specs.Value.{value_of}
use Rattle.kernel_code.specs.Tables.{Table, inputs_of}
use Rattle.kernel_lanes.specs.Flats.{query_at}
use Rattle.kernel_lanes.specs.Lanes.{IsServed}
use Rattle.kernel_lanes.specs.declared.queries.Query.{Query}
use Rattle.verifier.specs.Kernels.{Kernel}
use Rattle.ring_box.specs.Acting.{between}
use Rattle.ring_box.specs.Forces.{acting_distance_of}
use Rattle.ring_box.specs.Places.{places_of}
use Rattle.ring_box.specs.declared.vectors.Place3.{Place3}
use Rattle.integrator.proofs.ForceLaws.{ArePairsOf, frame_pairs, pairs_parts}
use Rattle.integrator.specs.Forces.{pairs_of}
use Rattle.integrator.specs.Frames.{Frame}
use Rattle.integrator.specs.declared.systems.System.{System}
use Rattle.frame_sums.proofs.SumLaws.{over_append, over_within}
use Rattle.frame_sums.proofs.TotalLaws.{given}
use Rattle.potential.proofs.PotentialLaws.{HasNumber, small_parts}
use Rattle.potential.specs.EnergyKernels.{GivesEnergy, HasEnergies}
use Rattle.potential.specs.LaneKernels.{IsCodeValue}
use Rattle.frame_sums.proofs.SafeLaws.{in_range}
use Rattle.frame_sums.proofs.TileLaws.{twice_pairs}
use Rattle.frame_sums.specs.Sums.{sum_over}
use Rattle.frame_sums.specs.PairEnergies.{energy_at, energy_sum, pair_energy, plus_energy}
use Rattle.frame_sums.specs.Rows.{query_of, found_of}
use Rattle.frame_sums.specs.SafeEnergies.{AreEnergies, AllHaveEnergies, IsEnergyCode, IsEnergyFor, IsEnergyOfPairs, energy_at_types, energy_between, found_energy, safe_value}
use Rattle.frame_sums.specs.SafeSystems.{IsSafeSystem, safe_dynamics}
use Rattle.ring_box.specs.declared.found_pairs.FoundPair.{FoundPair}
use Rattle.potential.specs.declared.slope_kernels.SlopeKernel.{SlopeKernel}

told : (o rest : Option ℤ) (v z : ℤ) → o ≡ Some v → rest ≡ Some z → plus_energy o rest ≡ Some (unwrap_or o (pos 0) +ℤ z)
told o rest v z is are = rw (is, are) refl

magnitude : (o : Option ℤ) (v : ℤ) (b : ℕ) → o ≡ Some v → unsigned_abs v ≤ b → unsigned_abs (unwrap_or o (pos 0)) ≤ b
magnitude o v b is small = rw is small

module _ {A : Type 0} (s : System (SlopeKernel A) A) where
  abbrev between_atoms : Frame → ℕ × ℕ → Option ℤ
  between_atoms frame p = pair_energy (safe_dynamics s) (safe_value s) frame p

  -- any two types have an energy by accepted code for the same distances
  all_have_energies : (k : Kernel) → k.table ≡ s.kernel.verified.table → k.core ≡ s.core → k.cutoff ≡ s.cutoff → HasEnergies (program_tree s.kernel.energy) k → AllHaveEnergies s
  all_have_energies k table core cutoff h a b r first second low high = rw (← table) (h a b r (rw table first) (rw table second) (rw core low) (rw cutoff high))

  -- accepted code of the energy, for the same types and distances
  pub energy_code : (k : Kernel) → k.table ≡ s.kernel.verified.table → k.core ≡ s.core → k.cutoff ≡ s.cutoff → GivesEnergy (program_tree s.kernel.energy) k → HasEnergies (program_tree s.kernel.energy) k → IsEnergyCode s k
  energy_code k table core cutoff gives has = record { table = table; core = core; cutoff = cutoff; given = all_have_energies k table core cutoff has; gives = gives }

  -- a query that is served by the slope's code is served by the energy's
  served_too : (k : Kernel) → IsSafeSystem s → IsEnergyCode s k → (query : Query) → IsServed s.kernel.verified query → IsServed k query
  served_too k accepted code query h = record {
    first = rw code.table h.first;
    second = rw code.table h.second;
    low = rw (code.core ∙ sym accepted.core) h.low;
    high = rw (code.cutoff ∙ sym accepted.cutoff) h.high;
  }

  pub all_served : (k : Kernel) (queries : List Query) → IsSafeSystem s → IsEnergyCode s k → All (IsServed s.kernel.verified) queries → All (IsServed k) queries
  all_served k queries accepted code h = λ i d lt. served_too k accepted code _ (h i d lt)

  -- the code's value for a query is the energy for the query
  energy_is : (t : Table) (query : Query) (v : ℤ) → t ≡ s.kernel.verified.table → value_of (bits_of t.frac) (inputs_of t query.a query.b query.r) (program_tree s.kernel.energy) ≡ Some v → IsEnergyFor s query v
  energy_is t query v same h = rw (← same) h

  -- the code's values for queries that it serves are the energies
  pub energies_are : (k : Kernel) (queries : List Query) (energies : List ℤ) → IsEnergyCode s k → All (IsServed k) queries → ((l : ℕ) → l < length queries → IsCodeValue k (query_at queries l) (slice_index_or energies l (pos 0)))
      → AreEnergies s queries energies
  energies_are k queries energies code served each l lt =
      let query = query_at queries l in
      let is : IsServed k query = served l _ lt in
      let value = each l lt in
      energy_is k.table query (slice_index_or energies l (pos 0)) code.table (code.gives query.a query.b query.r value.n _ is.first is.second value.ends)

  -- ---- pairs that are found

  -- the energies of the pairs found come to their sum
  pub energies_summed : (found : List FoundPair) (energies : List ℤ) → length found ≤ length energies → AreEnergies s (map (query_of s) found) energies
      → sum_over (λ v. v) (take (length found) energies) ≡ sum_over (found_energy s) found
  energies_summed [] energies room are = refl
  energies_summed (f ∷ fs) [] room are = absurd (omega arith)
  energies_summed (f ∷ fs) (v ∷ vs) room are =
      let first : v ≡ found_energy s f = value_given (energy_at_types s (query_of s f).a (query_of s f).b (query_of s f).r) v (are 0 (omega arith)) in
      ap₂ (λ a b. a +ℤ b) first (energies_summed fs vs (omega arith) (λ l lt. are (suc l) (omega arith)))
    where
      value_given : (o : Option ℤ) (v : ℤ) → o ≡ Some v → v ≡ unwrap_or o (pos 0)
      value_given o v e = rw e refl

  -- the energy of some pairs, and of more
  pub energy_more : (done found : List FoundPair) (z row new : ℤ) → IsEnergyOfPairs s done z → row ≡ sum_over (found_energy s) found → unsigned_abs row ≤ 2 ^ 63 * length found → new ≡ z +ℤ row
      → IsEnergyOfPairs s (done ++ found) new
  energy_more done found z row new is value bound made = record {
    value = omega (arith, ints, made, value, is.value, over_append (found_energy s) done found);
    within = omega (arith, ints, made, bound, is.within, length-append done found);
  }

  worth_at : (x y : Place3) (p : ℕ × ℕ) (o : Option ℤ)
      → given (pos 0) (found_energy s) (option_map {U = FoundPair} (λ a. record { low = p.0; high = p.1; acting = a }) (option_map (between s.ring x y) o)) ≡ unwrap_or (energy_at (safe_value s p) o) (pos 0)
  worth_at x y p None = refl
  worth_at x y p (Some r) = refl

  -- the energy found for a pair, or 0 if the pair isn't found, is the energy of the pair
  pub energy_worth : (frame : Frame) (p : ℕ × ℕ) → given (pos 0) (found_energy s) (found_of s frame p) ≡ energy_between s frame p
  energy_worth frame p =
      let x = places_of frame p.0 in
      let y = places_of frame p.1 in
      worth_at x y p (acting_distance_of s.frac s.ring s.core s.cutoff x y)

  -- ---- all pairs

  module _ (accepted : IsSafeSystem s) (had : AllHaveEnergies s) (frame : Frame) where
    number_at : (i j : ℕ) → i < length s.types.items → j < length s.types.items → (o : Option ℤ) → ((r : ℤ) → o ≡ Some r → (s.core ≤ℤ r) × (r <ℤ s.cutoff)) → HasNumber (2 ^ 64) (energy_at (safe_value s (i, j)) o)
    number_at i j first second None range = record { v = pos 0; has = refl; small = omega (arith, ints) }
    number_at i j first second (Some r) range =
        let within = range r refl in
        small_parts (2 ^ 64) (safe_value s (i, j) r) (had (slice_index s.types.items i) (slice_index s.types.items j) r (accepted.known i 0 first) (accepted.known j 0 second) within.0 within.1)

    has_number : (i j : ℕ) → i < j → j < length s.types.items → HasNumber (2 ^ 64) (between_atoms frame (i, j))
    has_number i j apart below =
        let x = places_of frame i in
        let y = places_of frame j in
        number_at i j (omega arith) below (acting_distance_of s.frac s.ring s.core s.cutoff x y) (λ r e. in_range s.frac s.ring s.core s.cutoff x y r s.below_cutoff e)

    -- the energy of pairs is the sum of their energies
    pub all_told : (n : ℕ) (ps : List (ℕ × ℕ)) → n ≤ length s.types.items → ArePairsOf n ps → energy_sum (between_atoms frame) ps ≡ Some (sum_over (energy_between s frame) ps)
    unfolding energy_sum
    all_told n [] h are = refl
    all_told n (p ∷ ps) h are =
        let q = pairs_parts n p ps are in
        let e = has_number p.0 p.1 q.0.apart (omega (arith, q.0.below)) in
        told (between_atoms frame p) (energy_sum (between_atoms frame) ps) e.v (sum_over (energy_between s frame) ps) e.has (all_told n ps h q.1)

    all_small : (n : ℕ) (ps : List (ℕ × ℕ)) → n ≤ length s.types.items → ArePairsOf n ps → sum_by (λ p. unsigned_abs (energy_between s frame p)) ps ≤ length ps * 2 ^ 64
    all_small n [] h are = omega arith
    all_small n (p ∷ ps) h are =
        let q = pairs_parts n p ps are in
        let e = has_number p.0 p.1 q.0.apart (omega (arith, q.0.below)) in
        let first : unsigned_abs (energy_between s frame p) ≤ 2 ^ 64 = magnitude (between_atoms frame p) e.v (2 ^ 64) e.has e.small in
        let rest : sum_by (λ q. unsigned_abs (energy_between s frame q)) ps ≤ length ps * 2 ^ 64 = all_small n ps h q.1 in
        omega (arith, sum_by-cons (λ q. unsigned_abs (energy_between s frame q)) p ps)

    -- the energy of all pairs is small
    pub energy_small : (z : ℤ) → length frame ≡ length s.types.items → energy_sum (between_atoms frame) (pairs_of (length frame)) ≡ Some z → unsigned_abs z < 2 ^ 95
    energy_small z atoms is =
        let n = length frame in
        let pairs = frame_pairs n 0 n (omega arith) in
        let sum : ℤ = sum_over (energy_between s frame) (pairs_of n) in
        let same : z ≡ sum = same_Some z sum (sym is ∙ all_told n (pairs_of n) (omega arith) pairs) in
        let within : unsigned_abs sum ≤ sum_by (λ p. unsigned_abs (energy_between s frame p)) (pairs_of n) = over_within (energy_between s frame) (pairs_of n) in
        let small : sum_by (λ p. unsigned_abs (energy_between s frame p)) (pairs_of n) ≤ length (pairs_of n) * 2 ^ 64 = all_small n (pairs_of n) (omega arith) pairs in
        let size : length s.types.items ≡ length s.masses.items = s.atoms in
        let most : length s.masses.items ≤ 65536 = s.most_atoms in
        let most_squares : n * n ≤ n * 65536 = mul-le-mul_left n (omega arith) in
        let count : 2 * length (pairs_of n) + n ≡ n * n = twice_pairs 0 n in
        rw same (omega (arith, within, small, most_squares, count))
