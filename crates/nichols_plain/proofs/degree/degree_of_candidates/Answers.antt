use Rattle.std.proofs.Common.{◌∙◌, length, refl, sym, ap, subst}
use Rattle.std.specs.List.{AllByRecursion}
use Rattle.nichols_rows.specs.Places.{independent_in, dependent_in, IsInside}
use Rattle.nichols_rows.proofs.Split.{places_inside}
use Rattle.nichols_plain.proofs.Steps.{candidates_have_columns, few_rows, candidates_are_rising}
use Rattle.nichols_plain.proofs.CandidatePlaces.{ArePlacesOf, basis_from_places, relations_from_places}
use Rattle.nichols_plain.proofs.degree.degree_of_candidates.Goals as goal

pub image_rows-requires : goal.image_rows-requires
image_rows-requires c = candidates_have_columns c.args.braid.now c.args.degree c.args.words.now c.requires.words c.requires.degree c.requires.columns

pub split_rows-requires-clause-count : goal.split_rows-requires-clause-count
split_rows-requires-clause-count c =
    few_rows c.args.braid.now c.args.degree c.args.words.now c.as_slice.result.now c.requires.words c.requires.columns (ap length c.as_slice.ensures.value ∙ c.in_ok-rows.ensures.count)

pub relations-requires-clause-rising : goal.relations-requires-clause-rising
relations-requires-clause-rising c = candidates_are_rising c.args.braid.now c.args.degree c.args.words.now c.requires.words

pub relations-requires-clause-inside : goal.relations-requires-clause-inside
relations-requires-clause-inside c =
    subst (AllByRecursion (IsInside (length c.args.words.now))) (sym c.as_slice-found.ensures.value)
    (places_inside c.args.braid.now.field c.in_ok-rows.rows.items c.args.words.now c.in_ok-places.places.items c.in_ok-rows.ensures.count (rw (← c.field-field.ensures.field, ← c.as_slice.ensures.value) c.in_ok-places.ensures))

pub returns : goal.returns
returns c =
    let split : ArePlacesOf c.args.braid.now c.args.degree c.args.words.now c.in_ok-rows.rows.items c.in_ok-places.places.items =
    record { braid_is = c.field-field.ensures.braid; words = c.requires.words; count = c.in_ok-rows.ensures.count; entries = c.in_ok-rows.ensures.entries; split = rw (← c.field-field.ensures.field, ← c.as_slice.ensures.value) c.in_ok-places.ensures } in
    record {
      degree = refl;
      basis = c.in_ok-basis.ensures ∙ ap (independent_in c.args.words.now) c.as_slice-found.ensures.value ∙ basis_from_places c.args.braid.now c.args.degree c.args.words.now c.in_ok-rows.rows.items c.in_ok-places.places.items split;
      relations =
          c.in_ok-relations.ensures ∙ ap (dependent_in c.args.words.now c.args.words.now) c.as_slice-found.ensures.value
          ∙ relations_from_places c.args.braid.now c.args.degree c.args.words.now c.in_ok-rows.rows.items c.in_ok-places.places.items split;
    }
