-- Each clause of the law on the labels of arguments is a lemma of `Labelling`.
use Rattle.sieve_script.specs.Label.{expecting, slots_of}
use Rattle.sieve_script.proofs.Labelling.{filled_one_by_one, own_labelled, positional_labelled, slots_in_turn, slots_meant, tags_labelled}
use Rattle.sieve_script.proofs.laws.arguments_are_tags_own_or_positional.Goals as goal

pub returns-clause-tagged : goal.returns-clause-tagged
returns-clause-tagged c row shapes place tag = tags_labelled shapes (expecting (slots_of row shapes)) place tag

pub returns-clause-own : goal.returns-clause-own
returns-clause-own c = own_labelled

pub returns-clause-others : goal.returns-clause-others
returns-clause-others c = positional_labelled

pub returns-clause-positional : goal.returns-clause-positional
returns-clause-positional c = slots_in_turn

pub returns-clause-longer : goal.returns-clause-longer
returns-clause-longer c = slots_meant

pub returns-clause-filled : goal.returns-clause-filled
returns-clause-filled c = filled_one_by_one
