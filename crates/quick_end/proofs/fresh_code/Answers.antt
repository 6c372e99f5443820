use Rattle.quick_end.proofs.Ways.{fresh-cookies, fresh-book, fresh-spi, fresh-nonce, fresh_passed}
use Rattle.quick_end.proofs.fresh_code.Goals as goal

pub returns-then-icookie-rcookie : goal.returns-then-icookie-rcookie
returns-then-icookie-rcookie c = search fresh-cookies

pub returns-then-not-book_in_front-book_size : goal.returns-then-not-book_in_front-book_size
returns-then-not-book_in_front-book_size c = search fresh-book

pub returns-then-ah-esp : goal.returns-then-ah-esp
returns-then-ah-esp c = search fresh-spi

pub returns-then-not-nonce : goal.returns-then-not-nonce
returns-then-not-nonce c = search fresh-nonce

pub returns : goal.returns
returns c = search fresh_passed
