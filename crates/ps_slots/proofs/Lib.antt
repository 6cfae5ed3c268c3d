pub mod LinksLead
