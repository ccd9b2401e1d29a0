-- The refusals that the faults of a call tell.
use Rattle.std.specs.Prelude.{Option, None, Some}
use Rattle.std.specs.Option.{option_map}
use Rattle.nichols_input.specs.Refusal.{refusal_of as input_refusal_of}
use Rattle.nichols_check.specs.Certificate.{CertificateRefusal, input, shape, candidates, form, inverse}
use Rattle.nichols_check.specs.declared.faults.CertificateFault.{CertificateFault}
use Rattle.nichols_check.specs.declared.faults.CertificateFault.TheVariants.{Input, Shape, Candidates, Form, Inverse, Memory}

-- the refusal that a fault tells; want of memory tells none
abbrev pub refusal_of : CertificateFault → Option CertificateRefusal
refusal_of (Input fault) = option_map input (input_refusal_of fault)
refusal_of (Shape m) = Some (shape m)
refusal_of (Candidates m) = Some (candidates m)
refusal_of (Form m w) = Some (form m w)
refusal_of (Inverse m w) = Some (inverse m w)
refusal_of Memory = None
