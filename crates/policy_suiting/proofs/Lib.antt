pub mod Laws
pub mod SuitLaws
pub mod SuitingLaws
pub mod Exactly
pub mod AttributeList
pub mod Offers
pub mod TransformLaws
