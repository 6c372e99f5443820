use Rattle.policy_reply.proofs.Told.{outcome_told-handed_on}
use Rattle.policy_reply.proofs.ReplyWays.{reply_small, reply_refused_lem, reply_low, reply_written}
use Rattle.policy_reply.proofs.reply.Goals as goal

pub returns-then-buffer-lt2048 : goal.returns-then-buffer-lt2048
returns-then-buffer-lt2048 c = search reply_small

pub returns-in_err-choice : goal.returns-in_err-choice
returns-in_err-choice c = let refusal = c.in_err-choice.field-0.0 in
    let handed = outcome_told-handed_on c.from_residual.result refusal c.from_residual.ensures.1 in
    let told = c.in_err-choice.ensures in search reply_refused_lem

pub returns-then-spis_low : goal.returns-then-spis_low
returns-then-spis_low c = let chosen = c.in_ok-choice.ensures in search reply_low

pub returns : goal.returns
returns c = let chosen = c.in_ok-choice.ensures in search reply_written
