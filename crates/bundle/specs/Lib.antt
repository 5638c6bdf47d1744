-- What an entry's words say, what reading, laying and finishing are (document 01, B1 to B4), and rows as lists.
pub mod Bundle
pub mod Shows
