use Rattle.corner_shapes.specs.declared.factor.Factor.{Factor}
use Rattle.corner_shapes.specs.Overlap.{Fraction}

-- the fraction that a factor stands for
abbrev pub fraction_of : Factor → Fraction
fraction_of f = record { over = f.over; under = f.under }
