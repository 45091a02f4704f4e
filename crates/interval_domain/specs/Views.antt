-- The ranges that ends and intervals of the code stand for.
use Rattle.std.specs.Prelude.{Result, Ok, Err}
use Rattle.fixed.specs.declared.faults.Fault.{Fault}
use Rattle.interval_domain.specs.declared.span.Span.{Span}
use Rattle.interval_domain.specs.declared.ends.Ends.{Ends}
use Rattle.interval_domain.specs.Ranges.{Range, range}

-- the integers between the ends
abbrev pub range_of : Ends → Range
range_of e = range e.low e.high

-- the raw values of an interval
abbrev pub span_range : Span → Range
span_range s = range s.lo s.hi

-- the raw values of an interval, or the fault
abbrev pub result_range : Result Span Fault → Result Range Fault
result_range (Ok s) = Ok (span_range s)
result_range (Err fault) = Err fault
