-- The laws of products from the left.
use Rattle.nichols_braid.specs.LeftLaws.{MapsAreOnto, LeftDerivationRule, CarriedDerivations, KilledIsLeftIdeal, KilledIsIdealFromLeft}
use Rattle.nichols_braid.proofs.Carried.{skew_derivative-carried_past}
use Rattle.nichols_braid.proofs.LeftIdeal.{skew_derivative-letter_times, killed-letter_times, is_killed_is_left_ideal}
use Rattle.nichols_braid.proofs.Onto.{each_is_acted}

pub maps_are_onto : MapsAreOnto
maps_are_onto braid is a d la ld = each_is_acted braid is.rack a la d ld

pub left_derivation_rule : LeftDerivationRule
left_derivation_rule braid is a b f = skew_derivative-letter_times braid is.field a b f

pub carried_derivations : CarriedDerivations
carried_derivations braid is a c la lc f over = skew_derivative-carried_past braid is.field is.rack is.cocycle a c la lc f over

pub killed_is_left_ideal : KilledIsLeftIdeal
killed_is_left_ideal braid is m f b over letter h = killed-letter_times braid is.field is.rack is.cocycle m f b over h

pub killed_is_ideal_from_left : KilledIsIdealFromLeft
killed_is_ideal_from_left braid is = is_killed_is_left_ideal braid is.field is.rack is.cocycle
