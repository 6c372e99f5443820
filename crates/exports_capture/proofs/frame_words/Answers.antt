use Rattle.exports_words.specs.Given.{words}
use Rattle.capture_frame.specs.Frame.{frame_answer}
use Rattle.exports_capture.proofs.Ways.{frame_form}
use Rattle.exports_capture.proofs.frame_words.Goals as goal

pub returns-in-CutShort : goal.returns-in-CutShort
unfolding words frame_answer
returns-in-CutShort c = search frame_form

pub returns-in-NotIpv4 : goal.returns-in-NotIpv4
unfolding words frame_answer
returns-in-NotIpv4 c = search frame_form

pub returns-in-Fragment : goal.returns-in-Fragment
unfolding words frame_answer
returns-in-Fragment c = search frame_form

pub returns-in-OtherProtocol : goal.returns-in-OtherProtocol
unfolding words frame_answer
returns-in-OtherProtocol c = search frame_form

pub returns-in-OtherPorts : goal.returns-in-OtherPorts
unfolding words frame_answer
returns-in-OtherPorts c = search frame_form

pub returns-in-Message : goal.returns-in-Message
unfolding words frame_answer
returns-in-Message c = search frame_form

pub returns-in-Datagram : goal.returns-in-Datagram
unfolding words frame_answer
returns-in-Datagram c = search frame_form

pub returns-in-Ah : goal.returns-in-Ah
unfolding words frame_answer
returns-in-Ah c = search frame_form

pub returns-in-Esp : goal.returns-in-Esp
unfolding words frame_answer
returns-in-Esp c = search frame_form
