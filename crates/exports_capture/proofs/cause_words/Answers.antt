use Rattle.exports_words.specs.Given.{words}
use Rattle.capture_header.specs.Headers.{header_cause_answer}
use Rattle.exports_capture.proofs.Ways.{cause_form, cause_none}
use Rattle.exports_capture.proofs.cause_words.Goals as goal

pub returns-in_default : goal.returns-in_default
unfolding words header_cause_answer
returns-in_default c = search cause_none

pub returns-in-Short : goal.returns-in-Short
unfolding words header_cause_answer
returns-in-Short c = search cause_form

pub returns-in-Pcapng : goal.returns-in-Pcapng
unfolding words header_cause_answer
returns-in-Pcapng c = search cause_form

pub returns-in-Nanoseconds : goal.returns-in-Nanoseconds
unfolding words header_cause_answer
returns-in-Nanoseconds c = search cause_form

pub returns-in-Version : goal.returns-in-Version
unfolding words header_cause_answer
returns-in-Version c = search cause_form

pub returns-in-CheckSequences : goal.returns-in-CheckSequences
unfolding words header_cause_answer
returns-in-CheckSequences c = search cause_form

pub returns-in-LinkType : goal.returns-in-LinkType
unfolding words header_cause_answer
returns-in-LinkType c = search cause_form

pub returns-in-NoCapture : goal.returns-in-NoCapture
unfolding words header_cause_answer
returns-in-NoCapture c = search cause_form
