use Rattle.update_client.proofs.GenuineAnswers.{answers}
use Rattle.update_client.proofs.laws.answers_are_genuine.Goals as goal

pub returns : goal.returns
returns c = answers (record {
  sets = record {
    leads = c.differences_lead.ensures.leads;
    in_range = c.differences_lead.ensures.in_range;
    rising = c.sets_go_by_members.ensures.rising;
    members = c.sets_go_by_members.ensures.members;
    only = c.sets_go_by_members.ensures.only;
    same = c.sets_go_by_members.ensures.same;
    decodes = c.encoding_is_decoded.ensures;
    rise = c.sent_numbers_rise.ensures;
  };
  last = c.targets_are_the_greatest.ensures.last;
})
