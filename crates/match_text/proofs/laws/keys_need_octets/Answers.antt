use Rattle.match_text.proofs.Rooms.{part_needs, pattern_needs, whole_needs}
use Rattle.match_text.proofs.laws.keys_need_octets.Goals as goal

pub returns-clause-is : goal.returns-clause-is
returns-clause-is c = whole_needs

pub returns-clause-contains : goal.returns-clause-contains
returns-clause-contains c = part_needs

pub returns-clause-matches : goal.returns-clause-matches
returns-clause-matches c = pattern_needs
