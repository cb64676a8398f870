-- Every statement of specs/ on authority (the second demand) and on partitions (the third), with its proof. Assumes nothing.
use Rattle.rules.specs.Authority.{RefusalLeaves, TestIsDerived, AcceptedExactly, RefusedExactly, Section4Always, FormedAlways, NeverMore, RevokeExactly, DeleteKeeps, ReusedIsFresh, SendNeedsGrant, SendBadge, ReceiveEmpties, ApartIsNotEnough, Confinement}
use Rattle.rules.specs.History.{DerivedIsAncestry, RevokeByAncestry}
use Rattle.rules.specs.Partition.{Promise, TurnsByTable}
use Rattle.rules.proofs.Licence.{refusal_leaves}
use Rattle.rules.proofs.Chain.{test_is_derived}
use Rattle.rules.proofs.Bootable.{accepted_exactly, refused_exactly}
use Rattle.rules.proofs.Mail.{send_needs_grant, send-badge}
use Rattle.rules.proofs.Apart.{apart_is_not_enough}
use Rattle.rules.proofs.Reached.{section4_always, formed_always, never_more, revoke_exactly, delete_keeps, reused_is_fresh, receive_empties, confinement}
use Rattle.rules.proofs.Followed.{derived_is_ancestry, revoke_by_ancestry}
use Rattle.rules.proofs.Promise.{promise}
use Rattle.rules.proofs.Table.{turns_by_table}

pub authority : RefusalLeaves × TestIsDerived × AcceptedExactly × RefusedExactly × Section4Always × FormedAlways × NeverMore
    × RevokeExactly × DeleteKeeps × ReusedIsFresh × SendNeedsGrant × SendBadge × ReceiveEmpties × DerivedIsAncestry × RevokeByAncestry
    × ApartIsNotEnough × Confinement
authority = (
  refusal_leaves,
  test_is_derived,
  accepted_exactly,
  refused_exactly,
  section4_always,
  formed_always,
  never_more,
  revoke_exactly,
  delete_keeps,
  reused_is_fresh,
  send_needs_grant,
  send-badge,
  receive_empties,
  derived_is_ancestry,
  revoke_by_ancestry,
  apart_is_not_enough,
  confinement,
)

pub partitions : Promise × TurnsByTable
partitions = (promise, turns_by_table)
