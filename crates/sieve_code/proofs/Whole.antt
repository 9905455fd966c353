-- No part of a script's walk is cut off.
use Rattle.sieve_script.specs.Script as script
use Rattle.sieve_script.specs.Script.{Condition, always, never, negated, all_hold, any_holds, Conditions, no_conditions, one_condition, Commands, no_commands, chooses, Branches, no_branches, else_branch, test_branch}
use Rattle.sieve_code.specs.Walk.{Walk, IsWhole, all_walk, any_walk, at_end, branches_walk, condition_walk, commands_walk, script_walk}

mutual
  unfolding condition_walk all_walk any_walk IsWhole

  condition_whole : (c : Condition) (held failed : Walk) → IsWhole held → IsWhole failed → IsWhole (condition_walk c held failed)
  condition_whole always held failed h f = h
  condition_whole never held failed h f = f
  condition_whole (script.asks ask) held failed h f = (h, f)
  condition_whole (negated c) held failed h f = condition_whole c failed held f h
  condition_whole (all_hold cs) held failed h f = all_whole cs held failed h f
  condition_whole (any_holds cs) held failed h f = any_whole cs held failed h f

  all_whole : (cs : Conditions) (held failed : Walk) → IsWhole held → IsWhole failed → IsWhole (all_walk cs held failed)
  all_whole no_conditions held failed h f = h
  all_whole (one_condition c cs) held failed h f = condition_whole c (all_walk cs held failed) failed (all_whole cs held failed h f) f

  any_whole : (cs : Conditions) (held failed : Walk) → IsWhole held → IsWhole failed → IsWhole (any_walk cs held failed)
  any_whole no_conditions held failed h f = f
  any_whole (one_condition c cs) held failed h f = condition_whole c held (any_walk cs held failed) h (any_whole cs held failed h f)

mutual
  unfolding commands_walk branches_walk IsWhole

  commands_whole : (c : Commands) (next : Walk) → IsWhole next → IsWhole (commands_walk c next)
  commands_whole no_commands next n = n
  commands_whole (script.stops rest) next n = tt
  commands_whole (script.returns rest) next n = tt
  commands_whole (script.acts leaf line rest) next n = commands_whole rest next n
  commands_whole (chooses branches rest) next n = branches_whole branches (commands_walk rest next) (commands_whole rest next n)

  branches_whole : (bs : Branches) (next : Walk) → IsWhole next → IsWhole (branches_walk bs next)
  branches_whole no_branches next n = n
  branches_whole (else_branch inner) next n = commands_whole inner next n
  branches_whole (test_branch c inner others) next n = condition_whole c (commands_walk inner next) (branches_walk others next) (commands_whole inner next n) (branches_whole others next n)

pub script_whole : (commands : Commands) → IsWhole (script_walk commands)
unfolding IsWhole
script_whole commands = commands_whole commands at_end tt
